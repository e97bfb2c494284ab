use Rattle.std.proofs.Common.{◌+◌, ◌≡◌, drop, true}
use Rattle.taxi_units.specs.Calendar.{date_from, date_of_place, month_lengths}
use Rattle.taxi_units.proofs.calendar.date_of_place.Given as goal

-- the days that are left, from the first of this month, lead to the same date
abbrev pub invariant-loop-length : goal.invariant-loop-length
invariant-loop-length l = record {
  month : l.month ≡ l.length-index + 1;
  left : date_from l.month (drop l.length-index (month_lengths true)) l.days ≡ date_of_place l.place;
}
