-- The first seconds of years.
use Rattle.std.proofs.Common.{ℕ, ◌+◌, ◌/◌, ◌<◌, ◌↔◌, ◌≡◌, ◌≤◌, Bool, arith, cond, false, inl, inr, ltb, refl, subst}
use Rattle.{std.proofs.{Common.{suc, true, zero}, lemmas.Bool.{cases_lt}}, taxi_units.specs.Time.{last_second}}
use Rattle.interval_clock.specs.Calendar.{date_after, days_of_months, days_of_years, next_date}
use Rattle.offset_rules.specs.Common.{CalendarDate, day_number_of, days_of_month, first_second}
use Rattle.offset_rules.specs.Summer.{first_second_of, year_of}
use Rattle.offset_rules.proofs.YearDays.{day_in_year, first_is_date, in_its_year}

begins_2000 : day_number_of 2000 1 1 ≡ 10957
unfolding days_of_years days_of_months
begins_2000 = refl

begins_2200 : day_number_of 2200 1 1 ≡ 84006
unfolding days_of_years days_of_months
begins_2200 = refl

-- a year begins before the next
pub year_after : (year : ℕ) → 1970 ≤ year → first_second_of year < first_second_of (year + 1)
year_after year from =
    let day = day_in_year year 1 1 from (first_is_date year) in
    omega (arith, day)

-- years begin in order
pub years_in_order : (year later : ℕ) → 1970 ≤ year → year ≤ later → first_second_of year ≤ first_second_of later
years_in_order year zero from le = absurd (omega arith)
years_in_order year (suc later) from le =
    elim (cases_lt later year) [
      | inl lt ↦ let same : year ≡ suc later = omega arith in
          subst (λ (y : ℕ). first_second_of year ≤ first_second_of y) same (omega arith)
      | inr ge ↦
          let rest = years_in_order year later from ge in
          let next : later + 1 ≡ suc later = omega arith in
          let step = rw next at (year_after later (omega arith)) in
          omega (arith, rest, step)
    ]

-- from 2000 on years begin at the first second of all or later
pub from_the_first : (year : ℕ) → 2000 ≤ year → first_second ≤ first_second_of year
from_the_first year from = omega (arith, begins_2000, years_in_order 2000 year (omega arith) from)

-- to 2199 they end at the last second or earlier
pub to_the_last : (year : ℕ) → 1970 ≤ year → year ≤ 2199 → first_second_of (year + 1) ≤ last_second + 1
to_the_last year from to = omega (arith, begins_2200, years_in_order (year + 1) 2200 (omega arith) (omega arith))

-- a second lies in its year
pub second_in_year : (second : ℕ) → 1970 ≤ year_of second
    → (first_second_of (year_of second) ≤ second) × (second < first_second_of (year_of second + 1))
second_in_year second from = omega (arith, in_its_year (second / 86400) from)

-- going on from 1970 no year is earlier
no_earlier : (d : CalendarDate) → d.year ≤ (next_date d).year
no_earlier d = by (ltb d.date (days_of_month d.year d.month)) (ltb d.month 12)
  where
    by : (in_month in_year : Bool) → d.year ≤ (cond {A = CalendarDate} in_month (record d { date = d.date + 1 })
        (cond {A = CalendarDate} in_year (record { year = d.year; month = d.month + 1; date = 1 })
        (record { year = d.year + 1; month = 1; date = 1 }))).year
    by true in_year = omega arith
    by false true = omega arith
    by false false = omega arith

from_1970 : (days : ℕ) → 1970 ≤ (date_after days).year
unfolding date_after
from_1970 zero = omega arith
from_1970 (suc days) = omega (arith, from_1970 days, no_earlier (date_after days))

-- the seconds of a year are those from its first up to that of the next
pub seconds_have_their_year : (year second : ℕ) → 1970 ≤ year → (year_of second ≡ year)
    ↔ ((first_second_of year ≤ second) × (second < first_second_of (year + 1)))
seconds_have_their_year year second from = (
  λ same. subst (λ (y : ℕ). (first_second_of y ≤ second) × (second < first_second_of (y + 1))) same
      (second_in_year second (from_1970 (second / 86400))),
  λ within.
      let y = year_of second in
      let there = second_in_year second (from_1970 (second / 86400)) in
      elim (cases_lt y year) [
        | inl lt ↦ absurd (omega (
          arith,
          there,
          within,
          years_in_order (y + 1) year (omega (arith, from_1970 (second / 86400))) (omega arith),
        ))
        | inr ge ↦ elim (cases_lt year y) [
          | inl gt ↦ absurd (omega (arith, there, within, years_in_order (year + 1) y (omega arith) (omega arith)))
          | inr le ↦ omega arith
        ]
      ],
)
