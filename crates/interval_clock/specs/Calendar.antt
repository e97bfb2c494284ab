-- Rules: day numbers and weekdays of the proleptic Gregorian calendar, from the year 0 on.
use Rattle.std.specs.{Int.{int_rem_euclid}, Prelude.{zero}}
use Rattle.std.specs.Prelude.{ℕ, ℤ, ◌+ℤ◌, ◌+◌, ◌-◌, ◌≡◌, ◌≤◌, if◌then◌else◌, nat_lt, pos, suc, sum, take, unsigned_abs}
pub use Rattle.taxi_units.specs.Calendar.{IsDate, date_place, days_of_month, is_date, is_leap_year, month_lengths}
pub use Rattle.interval_clock.specs.declared.day_numbers.CalendarDate.{CalendarDate}

-- a year has 366 days if it is a leap year, and else 365
abbrev pub days_of_year : ℕ → ℕ
days_of_year year = if is_leap_year year then 366 else 365

-- the days of the first `years` years, from the year 0 on, are the sum of the days of each
unfoldable pub days_of_years : ℕ → ℕ
days_of_years zero = 0
days_of_years (suc years) = days_of_years years + days_of_year years

-- the days of the first `months` months of a year are the sum of the days of each
unfoldable pub days_of_months : (year months : ℕ) → ℕ
days_of_months year months = sum (take months (month_lengths (is_leap_year year)))

-- the place of a date in its year is the number of days before it in that year: 1 January has place 0
abbrev pub place_in_year : (year month date : ℕ) → ℕ
place_in_year year month date = days_of_months year (month - 1) + (date - 1)

-- a day number is that of a date if the calendar has the date, and the day number and the days of the years before
-- 1970 add up to the days of the years before the date's year and its place in its year
pub record IsDateOf (day : ℤ) (year month date : ℕ) : Type 0 where
  pub month_in : (1 ≤ month) × (month ≤ 12)
  pub date_in : (1 ≤ date) × (date ≤ days_of_month year month)
  pub count : day +ℤ pos (days_of_years 1970) ≡ pos (days_of_years year + place_in_year year month date)

-- the day number of a date of 1970 or later is the number of days from 1970-01-01 to it
abbrev pub day_number_of : (year month date : ℕ) → ℕ
day_number_of year month date = days_of_years year + place_in_year year month date - days_of_years 1970

-- the weekday of a day number, 1 for Monday to 7 for Sunday, goes round every seven days, and day 0 is a Thursday
abbrev pub weekday_of : ℤ → ℕ
weekday_of day = 1 + unsigned_abs (int_rem_euclid (day +ℤ pos 3) (pos 7))

-- the next date is the next day of the month, or else the first of the next month, or after December the first of
-- January in the next year
abbrev pub next_date : CalendarDate → CalendarDate
next_date d =
    if nat_lt d.date (days_of_month d.year d.month) then record d { date = d.date + 1 }
    else (if nat_lt d.month 12 then record { year = d.year; month = d.month + 1; date = 1 }
    else record { year = d.year + 1; month = 1; date = 1 })

-- the date `days` days after 1970-01-01 is reached by going to the next date that many times
unfoldable pub date_after : (days : ℕ) → CalendarDate
date_after zero = record { year = 1970; month = 1; date = 1 }
date_after (suc days) = next_date (date_after days)
