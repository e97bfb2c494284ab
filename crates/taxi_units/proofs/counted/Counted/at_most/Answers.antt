use Rattle.std.proofs.Common.{◌+◌, ◌-◌, ◌/◌, ◌≡◌, arith, inr, sym}
use Rattle.taxi_units.proofs.Halvings.{count_by-at, ends_after, fails_after, passes_before}
use Rattle.taxi_units.proofs.counted.Counted.at_most.Goals as goal

pub loop-count-preserved-then-is_at_most : goal.loop-count-preserved-then-is_at_most
loop-count-preserved-then-is_at_most g c =
    let loop = c.loop-count.invariant in
    let middle = c.loop-count.count + (c.loop-count.end - c.loop-count.count) / 2 in
    let test = λ (element : g.row.T.Denot). g.T.Keyed.at_most element c.args.key in
    let back : middle + 1 - 1 ≡ middle = omega arith in
    record {
      order = omega arith;
      end = loop.end;
      counted = passes_before test c.args.self.now middle c.read-element.result c.is_at_most.result c.requires
          c.read-element.ensures.value (omega arith) c.is_at_most.ensures c.if-is_at_most.true;
      passed = loop.passed;
      last = rw back (omega arith, c.read-element.ensures.value);
      most = λ digits few. rw c.read-element.ensures.step
          (ends_after _ _ (c.loop-count.end - c.loop-count.count) (c.loop-count.end - (middle + 1))
          (loop.most digits few) (omega arith) (omega arith));
      least = inr (omega arith);
    }

pub loop-count-preserved : goal.loop-count-preserved
loop-count-preserved g c =
    let loop = c.loop-count.invariant in
    let middle = c.loop-count.count + (c.loop-count.end - c.loop-count.count) / 2 in
    let test = λ (element : g.row.T.Denot). g.T.Keyed.at_most element c.args.key in
    record {
      order = omega arith;
      end = omega arith;
      counted = loop.counted;
      passed = fails_after test c.args.self.now middle c.read-element.result c.is_at_most.result c.requires
          c.read-element.ensures.value c.is_at_most.ensures c.if-is_at_most.false;
      last = loop.last;
      most = λ digits few. rw c.read-element.ensures.step
          (ends_after _ _ (c.loop-count.end - c.loop-count.count) (middle - c.loop-count.count) (loop.most digits few)
          (omega arith) (omega arith));
      least = inr (omega arith);
    }

pub returns-clause-count : goal.returns-clause-count
returns-clause-count g c =
    let loop = c.loop-count.invariant in
    sym
    (count_by-at (λ (element : g.row.T.Denot). g.T.Keyed.at_most element c.args.key) c.loop-count.count c.args.self.now
    (omega arith) loop.counted (λ place other from within. loop.passed place other (omega arith) within))

pub returns-clause-point : goal.returns-clause-point
returns-clause-point g c =
    let loop = c.loop-count.invariant in (
      λ place other from before. loop.counted place other before,
      λ place other from within. loop.passed place other (omega arith) within,
    )
