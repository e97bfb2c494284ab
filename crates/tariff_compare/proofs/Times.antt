-- Days and minutes of a meter.
use Rattle.std.proofs.Common.{ℕ, ◌%◌, ◌+◌, ◌-◌, ◌∙◌, ◌≡◌, ◌≤◌, Bool, None, Some, arith, false, get_or, inl, inr, pos}
use Rattle.std.proofs.{Common.{refl, suc, sym, true, zero}, lemmas.Bool.{cases_lt}}
use Rattle.{taxi_units.specs.Calendar.{IsLeapYearDate, date_of_place}, interval_clock.proofs.Laws.{IsDateOf-date_after}}
use Rattle.taxi_units.proofs.Laws.{dates_have_places, places_have_dates}
use Rattle.interval_clock.specs.Calendar.{date_after, days_of_month, is_leap_year, month_lengths}
use Rattle.tariff_compare.specs.Common.{date_place, weekday_of}

-- the weekday of a day number
pub weekday_is : (number : ℕ) → weekday_of (pos number) ≡ (number + 3) % 7 + 1
weekday_is number = omega arith

-- no month is longer than in a leap year
lengths_le : (leap : Bool) (i : ℕ) → get_or (month_lengths leap) i 0 ≤ get_or (month_lengths true) i 0
lengths_le true i = omega arith
lengths_le false zero = omega arith
lengths_le false (suc zero) = omega arith
lengths_le false (suc (suc i)) = omega arith

days_of_month_le : (year month : ℕ) → days_of_month year month ≤ days_of_month 2000 month
days_of_month_le year month = lengths_le (is_leap_year year) (month - 1)

-- the place of a date in a leap year is at most 365
pub date_place_most : (n : ℕ) → date_place (date_after n).month (date_after n).date ≤ 365
date_place_most n =
    let d = date_after n in
    let is = IsDateOf-date_after n in
    let leap : IsLeapYearDate d.month d.date =
    (is.month_in, is.date_in.0, omega (arith, is.date_in.1, days_of_month_le d.year d.month)) in
    let there : date_of_place (date_place d.month d.date) ≡ Some (d.month, d.date) =
    (dates_have_places d.month d.date (date_place d.month d.date)).1 (leap, refl) in
    elim (cases_lt (date_place d.month d.date) 366) [
      | inl lt ↦ omega arith
      | inr ge ↦ absurd (both (sym there ∙ (places_have_dates (date_place d.month d.date)).1 ge))
    ]
  where
    both : {A : Type 0} {a : A} → Some a ≡ None → ⊥
    both h = cc
