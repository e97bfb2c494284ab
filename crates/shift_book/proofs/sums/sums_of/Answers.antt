use Rattle.std.proofs.Common.{◌∙◌, List, ap, subst, sym}
use Rattle.shift_book.{specs.{Common.{Shift}, ShareStages.{with_shifts}}, proofs.DriverSums.{SoFar, one_more, sum_fits}}
use Rattle.shift_book.proofs.sums.sums_of.Goals as goal

pub add_shift-requires : goal.add_shift-requires
add_shift-requires c =
    let so_far = subst (λ (left : List Shift). SoFar c.loop-shift.sums.entries left c.args.shifts.now)
    c.in-Some.ensures.cases.0 c.loop-shift.invariant.shared in
    sum_fits c.loop-shift.sums.entries c.in-Some.shift.now c.in-Some.rest.now c.args.shifts.now
    c.loop-shift.invariant.ordered so_far c.requires

pub loop-shift-preserved : goal.loop-shift-preserved
loop-shift-preserved c =
    let so_far = subst (λ (left : List Shift). SoFar c.loop-shift.sums.entries left c.args.shifts.now)
    c.in-Some.ensures.cases.0 c.loop-shift.invariant.shared in
    record {
      ordered = c.in_ok-add_shift.ensures.ordered;
      shared = one_more c.loop-shift.sums.entries c.add_shift.new.sums.entries c.in-Some.shift.now c.in-Some.rest.now
          c.args.shifts.now c.loop-shift.invariant.ordered so_far
          c.in_ok-add_shift.ensures.entries c.in_ok-add_shift.ensures.found;
      same = ap (λ x. with_shifts x c.in-Some.rest.now) c.in_ok-add_shift.ensures.entries
          ∙ sym (ap (with_shifts c.loop-shift.sums.entries) c.in-Some.ensures.cases.0)
          ∙ c.loop-shift.invariant.same;
    }
