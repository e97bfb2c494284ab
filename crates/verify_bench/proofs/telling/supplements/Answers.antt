use Rattle.std.proofs.{Common.{◌∙◌, arith}, lemmas.Nat.{mul-le}}
use Rattle.verify_bench.specs.Common.{amount_in, supplement_of, tree_of}
use Rattle.verify_bench.proofs.{AmountSums.{all_among, among_here, among_nothing}, GatheredSums.{zero_plus}}
use Rattle.verify_bench.proofs.telling.supplements.Goals as goal

pub loop-number-init : goal.loop-number-init
loop-number-init c = record {
  all = zero_plus _ ∙ all_among (λ number. amount_in (supplement_of (tree_of c.args.checked.now).lines number))
      c.args.hiring.now.extras.items c.requires.numbers;
  few = omega arith;
}

pub overflow_add-sum : goal.overflow_add-sum
overflow_add-sum c =
    let few = mul-le c.times.result c.amount_of.result 99 1000000
    (rw c.times.ensures (c.requires.few c.loop-number.number)) c.amount_of.ensures.most in
    omega (arith, few)

pub loop-number-preserved : goal.loop-number-preserved
loop-number-preserved c =
    let amount = λ (number : _). amount_in (supplement_of (tree_of c.args.checked.now).lines number) in
    let few = mul-le c.times.result c.amount_of.result 99 1000000
    (rw c.times.ensures (c.requires.few c.loop-number.number)) c.amount_of.ensures.most in
    record {
      all = among_here amount c.loop-number.number c.loop-number.sum c.times.result c.amount_of.result _
          c.args.hiring.now.extras.items
          (omega arith) c.times.ensures c.amount_of.ensures.amount c.loop-number.invariant.all;
      few = omega (arith, few);
    }

pub returns : goal.returns
returns c =
    among_nothing (λ number. amount_in (supplement_of (tree_of c.args.checked.now).lines number)) c.loop-number.number
    c.loop-number.sum _ c.args.hiring.now.extras.items (omega arith) c.loop-number.invariant.all
