use Rattle.std.proofs.Common.{ℕ, ◌+◌, ◌-◌, ◌/◌, ◌<◌, ◌∙◌, ◌≡◌, List, ap, arith, get_or, subst, sym}
use Rattle.{taxi_units.proofs.Laws.{ends_after}, tariff_calendar.proofs.Reaches.{count-before, counted-before}}
use Rattle.tariff_calendar.proofs.lookups.count_until.Goals as goal

pub loop-count-preserved-then-number-value : goal.loop-count-preserved-then-number-value
loop-count-preserved-then-number-value g c =
    let loop = c.loop-count.invariant in
    let middle = c.loop-count.count + (c.loop-count.end - c.loop-count.count) / 2 in
    let read : c.read-number.result ≡ get_or c.args.list.now middle 0 =
    c.read-number.ensures.value 0 ∙ ap (λ (list : List ℕ). get_or list middle 0) c.of-numbers.ensures in
    record {
      order = omega arith;
      end = loop.end;
      counted = counted-before c.args.value middle c.args.list.now c.requires (omega arith) (omega (arith, read));
      next = loop.next;
      kept = omega arith;
      most = λ digits few. rw c.read-number.ensures.step
          (ends_after _ _ (c.loop-count.end - c.loop-count.count) _ (loop.most digits few) (omega arith) (omega arith));
    }

pub loop-count-preserved : goal.loop-count-preserved
loop-count-preserved g c =
    let loop = c.loop-count.invariant in
    let middle = c.loop-count.count + (c.loop-count.end - c.loop-count.count) / 2 in
    let read : c.read-number.result ≡ get_or c.args.list.now middle 0 =
    c.read-number.ensures.value 0 ∙ ap (λ (list : List ℕ). get_or list middle 0) c.of-numbers.ensures in
    record {
      order = omega arith;
      end = omega arith;
      counted = loop.counted;
      next = λ within. omega (arith, read);
      kept = omega arith;
      most = λ digits few. rw c.read-number.ensures.step
          (ends_after _ _ (c.loop-count.end - c.loop-count.count) _ (loop.most digits few) (omega arith) (omega arith));
    }

pub returns-clause-value : goal.returns-clause-value
returns-clause-value g c =
    let loop = c.loop-count.invariant in
    let same : c.loop-count.end ≡ c.loop-count.count = omega arith in
    sym (count-before c.args.value c.args.value c.loop-count.count c.args.list.now c.requires (omega arith) loop.counted
    (λ within. subst (λ (n : ℕ). c.args.value < get_or c.args.list.now n 0) same
    (omega (arith, loop.next (omega arith)))) (omega arith))

pub returns-clause-same : goal.returns-clause-same
returns-clause-same g c = λ other from to.
    let loop = c.loop-count.invariant in
    let same : c.loop-count.end ≡ c.loop-count.count = omega arith in
    count-before c.args.value other c.loop-count.count c.args.list.now c.requires (omega arith) loop.counted
    (λ within. subst (λ (n : ℕ). other < get_or c.args.list.now n 0) same
    (omega (arith, to, loop.next (omega arith)))) from
    ∙ returns-clause-value g c
