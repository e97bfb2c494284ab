use Rattle.{std.proofs.Common.{arith, refl}, verify_bench.proofs.TakenLists.{no_more_taken, one_more_taken}}
use Rattle.verify_bench.specs.{Common.{sound_of, tree_of}, TripExplanations.{taken_if}}
use Rattle.verify_bench.proofs.telling.taken.Goals as goal

pub loop-number-init : goal.loop-number-init
loop-number-init c = rw c.new-taken.ensures.items refl

pub loop-number-preserved : goal.loop-number-preserved
loop-number-preserved c =
    rw c.in_ok-put_taken.ensures (one_more_taken
    (taken_if (sound_of (tree_of c.args.checked.now)) c.args.hiring.now.extras.items)
    c.loop-number.number c.loop-number.taken.items _ (omega arith) c.loop-number.invariant)

pub returns : goal.returns
returns c =
    no_more_taken (taken_if (sound_of (tree_of c.args.checked.now)) c.args.hiring.now.extras.items) c.loop-number.number
    c.loop-number.taken.items _ (omega arith) c.loop-number.invariant
