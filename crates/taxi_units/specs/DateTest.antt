-- For proofs: the test whether the calendar has a date, as `is_date` makes it, with the fact that it decides.
use Rattle.std.specs.Prelude.{ℕ}
use Rattle.taxi_units.specs.{Calendar.{IsDate, days_of_month}, Test.{◌&◌, Test, at_most, stated, within}}

-- the test passes if the calendar has a date
abbrev pub date_test : (year month date : ℕ) → Test
date_test year month date = stated (IsDate year month date)
    (at_most 1 month & (at_most month 12 & within 1 date (days_of_month year month)))
    (λ facts. ((facts.0, facts.1.0), facts.1.1.0, facts.1.1.1)) (λ is. (is.0.0, (is.0.1, (is.1, is.2))))
