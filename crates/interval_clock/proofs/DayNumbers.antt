-- The day numbers of dates.
use Rattle.std.proofs.Common.{ℕ, ℤ, ◌*ℤ◌, ◌*◌, ◌-ℤ◌, ◌/◌, ◌≡◌, ◌≤◌, ap, arith, inl, inr, int_div, pos, true}
use Rattle.{std.proofs.lemmas.Bool.{cases_lt}, jiff_core.specs.{Date.{epoch_day}, declared.civil.date.Date.{Date}}}
use Rattle.{jiff_core.proofs.SignedLemmas.{signed_arith}, taxi_units.specs.DateTest.{date_test}}
use Rattle.interval_clock.specs.Calendar.{IsDate, IsDateOf, day_number_of, days_of_month, days_of_years, is_date}
use Rattle.interval_clock.proofs.{CalendarDays.{days_of_years-later}, Dates.{epoch_day_is_date}}

-- the years up to one are at least those up to an earlier one
days_of_years-rise : (year later : ℕ) → year ≤ later → days_of_years year ≤ days_of_years later
days_of_years-rise year later h =
    elim (cases_lt year later) [
      | inl lt ↦ omega (arith, days_of_years-later year later lt)
      | inr ge ↦ let same : year ≡ later = omega arith in rw same (omega arith)
    ]

-- a date from 1970 on has its day number
pub epoch_day_is_number : (d : Date) (year : ℕ) → 1970 ≤ year → d.year ≡ pos year
    → epoch_day d ≡ pos (day_number_of year d.month d.day)
epoch_day_is_number d year from same =
    omega (arith, signed_arith, (epoch_day_is_date d year same).count, days_of_years-rise 1970 year from)

-- the calendar has the dates of jiff
pub is_date_there : (d : Date) (year month date : ℕ) → d.year ≡ pos year → d.month ≡ month → d.day ≡ date
    → is_date year month date ≡ true
is_date_there d year month date e f g =
    let there = epoch_day_is_date d year e in
    let within : (1 ≤ date) × (date ≤ days_of_month year month) = rw (← g, ← f) there.date_in in
    let months : (1 ≤ month) × (month ≤ 12) = rw (← f) d.month_in in
    (date_test year month date).decides.1 (months, within.0, within.1)

-- a date of jiff, by its numbers
pub number_there : (d : Date) (year month date : ℕ) → 1970 ≤ year → d.year ≡ pos year → d.month ≡ month → d.day ≡ date
    → epoch_day d ≡ pos (day_number_of year month date)
number_there d year month date from e f g = rw (← f, ← g) (epoch_day_is_number d year from e)

pub date_there : (d : Date) (day : ℤ) (year month date : ℕ) → day ≡ epoch_day d → d.year ≡ pos year → d.month ≡ month
    → d.day ≡ date → IsDateOf day year month date
date_there d day year month date same e f g = rw (same, ← f, ← g) (epoch_day_is_date d year e)

-- the whole hours of n days
hours_of_days : (n : ℕ) → int_div (pos n *ℤ pos 86400000000000) (pos 3600000000000) ≡ pos (n * 24)
hours_of_days n =
    let hours : n * 86400000000000 / 3600000000000 ≡ n * 24 = omega arith in
    ap pos hours

-- the same, of the time between two dates
pub whole_hours : (n : ℕ) (day start nanos hours : ℤ) → day ≡ pos n → start ≡ pos 0
    → nanos ≡ (day -ℤ start) *ℤ pos 86400000000000 → hours ≡ int_div nanos (pos 3600000000000) → hours ≡ pos (n * 24)
whole_hours n day start nanos hours d s e h =
    let apart : day -ℤ start ≡ pos n = omega (arith, signed_arith) in
    rw (h, e, apart) (hours_of_days n)

-- and the days again
pub days_of_hours : (n : ℕ) → int_div (pos (n * 24)) (pos 24) ≡ pos n
days_of_hours n = let days : n * 24 / 24 ≡ n = omega arith in ap pos days

-- a date of the calendar from 1970 on is that of its day number
pub is_date_of_number : (year month date : ℕ) → 1970 ≤ year → IsDate year month date
    → IsDateOf (pos (day_number_of year month date)) year month date
is_date_of_number year month date from is = record {
  month_in = is.0;
  date_in = (is.1, is.2);
  count = omega (arith, signed_arith, days_of_years-rise 1970 year from);
}

-- and of no other
pub one_day_number : (day : ℤ) (year month date : ℕ) → 1970 ≤ year → IsDateOf day year month date
    → day ≡ pos (day_number_of year month date)
one_day_number day year month date from is = omega (arith, signed_arith, is.count, days_of_years-rise 1970 year from)
