use Rattle.std.proofs.Common.{ℕ, ◌+◌, ◌-◌, ◌<◌, ◌∙◌, ◌≡◌, ◌≤◌, List, Some, add-one, arith, drop, drop-cons, get_or}
use Rattle.std.proofs.{Common.{length, refl, sym}, lemmas.Bool.{le-ltb, lt-ltb}}
use Rattle.taxi_units.specs.Calendar.{date_from}
use Rattle.taxi_units.proofs.calendar.date_of_place.Goals as goal

-- a day within the first month that is left is found in it
in_the_month : (month index days : ℕ) (lengths : List ℕ) → index < length lengths → days < get_or lengths index 0
    → date_from month (drop index lengths) days ≡ Some (month, days + 1)
in_the_month month index days lengths inside less =
    rw (drop-cons lengths index 0 inside, lt-ltb days (get_or lengths index 0) less) refl

-- and any other is looked for in the months behind it
after_the_month : (month index days : ℕ) (lengths : List ℕ) → index < length lengths → get_or lengths index 0 ≤ days
    → date_from (month + 1) (drop (index + 1) lengths) (days - get_or lengths index 0)
    ≡ date_from month (drop index lengths) days
after_the_month month index days lengths inside most =
    rw (add-one index, drop-cons lengths index 0 inside, le-ltb days (get_or lengths index 0) most) refl

pub returns-then-days-length : goal.returns-then-days-length
returns-then-days-length c =
    let loop = c.loop-length in
    let less = rw c.month_lengths.ensures at c.if-days-length.true in
    sym (in_the_month loop.month loop.length-index loop.days _ c.loop-length-test.true less) ∙ loop.invariant.left

pub loop-length-preserved : goal.loop-length-preserved
loop-length-preserved c =
    let loop = c.loop-length in
    let most = rw c.month_lengths.ensures at c.if-days-length.false in
    record {
      month = omega arith;
      left = rw c.month_lengths.ensures (after_the_month loop.month loop.length-index loop.days _
          c.loop-length-test.true most) ∙ loop.invariant.left;
    }
