-- The dates that jiff gives are those of the calendar.
use Rattle.std.proofs.Common.{ℕ, ℤ, ◌+ℤ◌, ◌+◌, ◌-ℤ◌, ◌-◌, ◌==◌, ◌||◌, ◌≡◌, ◌≤ℤ◌, ◌≤◌, Bool, arith, if◌then◌else◌}
use Rattle.std.proofs.Common.{negsuc, pos, refl, rules, slice_index, suc, sym, unsigned_abs, zero}
use Rattle.{std.proofs.lemmas.Int.{by_lt_z}, jiff_core.proofs.CalendarLemmas.{days_in_month_bounds}}
use Rattle.jiff_core.{specs.Date.{IsYmd, epoch_day}, proofs.SignedLemmas.{signed_arith}}
use Rattle.jiff_core.{specs.declared.civil.date.Date.{Date}, proofs.MarchLemmas.{day_count-early}}
use Rattle.jiff_core.proofs.CalendarLemmas.{day_count-epoch, day_count-lt_year, days_from_civil-day_count}
use Rattle.interval_clock.specs.Calendar.{IsDateOf, days_of_month, days_of_months, days_of_years, is_leap_year}
use Rattle.interval_clock.specs.Calendar.{month_lengths, place_in_year, weekday_of}
use Rattle.interval_clock.proofs.CalendarDays.{days_of_months-none, days_of_months-suc, each_month}
use Rattle.jiff_core.specs.Calendar as jiff

leap_or_not : (leap : Bool) (month : ℕ) → 1 ≤ month → month ≤ 12 → (if month == 2 then (if leap then 29 else 28)
    else (if (month == 4) || (month == 6) || (month == 9) || (month == 11) then 30 else 31))
    ≡ slice_index (month_lengths leap) (month - 1)
leap_or_not leap month low high =
    each_month (λ m. (if m == 2 then (if leap then 29 else 28)
    else (if (m == 4) || (m == 6) || (m == 9) || (m == 11) then 30 else 31)) ≡ slice_index (month_lengths leap) (m - 1))
    (refl, refl, refl, refl, refl, refl, refl, refl, refl, refl, refl, refl) month low high

-- jiff counts the days of months alike
pub days_of_months-jiff : (year months : ℕ) → months ≤ 12
    → jiff.days_of_months (pos year) months ≡ days_of_months year months
unfolding jiff.days_of_months
days_of_months-jiff year zero most = sym (days_of_months-none year)
days_of_months-jiff year (suc months) most =
    let rest = days_of_months-jiff year months (omega arith) in
    let next = days_of_months-suc year months (omega arith) in
    let month : jiff.days_in_month (pos year) (suc months) ≡ days_of_month year (suc months) =
    leap_or_not (is_leap_year year) (suc months) (omega arith) most in
    omega (arith, rest, next, month)

-- and the days of years, but from the year -10000 on
pub days_of_years-jiff : (years : ℕ)
    → jiff.days_of_years (years + 10000) ≡ jiff.days_of_years 10000 + days_of_years years
unfolding days_of_years jiff.days_of_years
days_of_years-jiff zero = omega arith
days_of_years-jiff (suc years) =
    let next : suc years + 10000 ≡ suc (years + 10000) = omega arith in
    let year : pos (years + 10000) -ℤ pos 10000 ≡ pos years = omega (arith, signed_arith) in
    rw (next, year) (omega (arith, days_of_years-jiff years))

-- so a day count from the year -10000 is one from the year 0 and those 10,000 years
pub day_count-parts : (year month date : ℕ) → month ≤ 12 → 1 ≤ date → jiff.day_count (pos year) month date
    ≡ jiff.days_of_years 10000 + days_of_years year + place_in_year year month date
unfolding jiff.day_count
day_count-parts year month date most first =
    omega (arith, days_of_years-jiff year, days_of_months-jiff year (month - 1) (omega arith))

-- a day number is the days from the year 0 on, less those up to 1970
pub days_from_civil-parts : (year month date : ℕ) → month ≤ 12 → 1 ≤ date → jiff.days_from_civil (pos year) month date
    +ℤ pos (days_of_years 1970) ≡ pos (days_of_years year + place_in_year year month date)
unfolding days_of_months
days_from_civil-parts year month date most first =
    omega (
      arith,
      signed_arith,
      days_from_civil-day_count (pos year) month date,
      day_count-epoch,
      day_count-parts 1970 1 1 (omega arith) (omega arith),
      day_count-parts year month date most first,
    )

-- a date of jiff in a year from 0 on is the date of its day number
pub epoch_day_is_date : (d : Date) (year : ℕ) → d.year ≡ pos year → IsDateOf (epoch_day d) year d.month d.day
epoch_day_is_date d year same = record {
  month_in = d.month_in;
  date_in = rw (leap_or_not (is_leap_year year) d.month d.month_in.0 d.month_in.1) at (rw same at d.day_in);
  count = rw same (days_from_civil-parts year d.month d.day d.month_in.1 d.day_in.0);
}

day_count-1999 : jiff.day_count (pos 1999) 1 1 ≡ 4382545
day_count-1999 = day_count-early (pos 1999) 11998 1 1 refl (omega arith) (omega arith) (omega arith)

day_count-2200 : jiff.day_count (pos 2200) 1 1 ≡ 4455959
day_count-2200 = day_count-early (pos 2200) 12199 1 1 refl (omega arith) (omega arith) (omega arith)

-- Days 10,592, which is 1999-01-01, to 84,006, which is 2200-01-01, lie in the years 1999 to 2200. A local second lies
-- in these days, since offsets have at most 14 hours.
pub year_of_day : (d : Date) → pos 10592 ≤ℤ epoch_day d → epoch_day d ≤ℤ pos 84006
    → (pos 1999 ≤ℤ d.year) × (d.year ≤ℤ pos 2200)
year_of_day d low high =
    let count = days_from_civil-day_count d.year d.month d.day in (
      by_lt_z d.year (pos 1999)
          (λ lt. absurd (omega (
            arith,
            signed_arith,
            count,
            day_count-1999,
            day_count-lt_year d.year d.month d.day (pos 1999) 1 1 (d.year_in, d.month_in, d.day_in) (omega arith) lt,
          )))
          (λ ge. ge),
      by_lt_z (pos 2200) d.year
          (λ gt. absurd (omega (
            arith,
            signed_arith,
            count,
            day_count-2200,
            day_count-lt_year (pos 2200) 1 1 d.year d.month d.day
                (search rules, search rules, search rules) d.day_in.0 gt,
          )))
          (λ le. le),
    )

-- the day number of 1970-01-01
pub epoch_day-start : (d : Date) → IsYmd (pos 1970) (pos 1) (pos 1) d → epoch_day d ≡ pos 0
epoch_day-start d start =
    let month : d.month ≡ 1 = omega (arith, signed_arith, start.1) in
    let day : d.day ≡ 1 = omega (arith, signed_arith, start.2) in
    rw (start.0, month, day) (omega (arith, signed_arith, days_from_civil-day_count (pos 1970) 1 1, day_count-epoch))

-- jiff counts weekdays from 0
pub weekday_number-weekday_of : (day : ℤ) → jiff.weekday_number day + 1 ≡ weekday_of day
unfolding jiff.weekday_number
weekday_number-weekday_of day = omega arith

-- a date is 31 at most
pub month_bound : (d : Date) → d.day ≤ 31
month_bound d = omega (arith, d.day_in.1, days_in_month_bounds d.year d.month)

-- a number that is not negative is its magnitude
pub pos-unsigned_abs : (z : ℤ) → pos 0 ≤ℤ z → pos (unsigned_abs z) ≡ z
pos-unsigned_abs (pos n) h = refl
pos-unsigned_abs (negsuc n) h = absurd (omega (arith, signed_arith))
