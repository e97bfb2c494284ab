-- Rules: the proleptic Gregorian calendar, from the year 0 on: leap years, months, and the places of dates in a leap
-- year.
use Rattle.std.specs.Prelude.{[], ℕ, ◌%◌, ◌&&◌, ◌+◌, ◌-◌, ◌==◌, ◌||◌, ◌∷◌, ◌≤◌, Bool, List, None, Option, Some}
use Rattle.std.specs.Prelude.{if◌then◌else◌, nat_le, nat_lt, not, slice_index, sum, take, true}

-- a year is a leap year if 4 divides it, except if 100 divides it and 400 doesn't
abbrev pub is_leap_year : ℕ → Bool
is_leap_year year = (year % 4 == 0) && (not (year % 100 == 0) || (year % 400 == 0))

-- the lengths of the months from January to December are their numbers of days, and February has one more in a leap
-- year
abbrev pub month_lengths : (leap : Bool) → List ℕ
month_lengths leap =
    31 ∷ (if leap then 29 else 28) ∷ 31 ∷ 30 ∷ 31 ∷ 30 ∷ 31 ∷ 31 ∷ 30 ∷ 31 ∷ 30 ∷ 31 ∷ []

-- a month is a number from 1, for January, to 12, for December
abbrev pub IsMonth : ℕ → Type 0
IsMonth month = (1 ≤ month) × (month ≤ 12)

-- a month of a year has as many days as stand at its place in the list of the months' days
abbrev pub days_of_month : (year month : ℕ) → ℕ
days_of_month year month = slice_index (month_lengths (is_leap_year year)) (month - 1)

-- the calendar has a date if its month is 1 to 12, and its day 1 to the number of days of that month in that year
abbrev pub IsDate : (year month date : ℕ) → Type 0
IsDate year month date = IsMonth month × (1 ≤ date) × (date ≤ days_of_month year month)

-- the test `is_date` is true if the calendar has a date
abbrev pub is_date : (year month date : ℕ) → Bool
is_date year month date =
    nat_le 1 month && (nat_le month 12 && (nat_le 1 date && nat_le date (days_of_month year month)))

-- a leap year has a month and date if the leap year 2000 has them
abbrev pub IsLeapYearDate : (month date : ℕ) → Type 0
IsLeapYearDate month date = IsDate 2000 month date

-- the place of a date in a leap year is the number of days before it, in the earlier months and in its own
abbrev pub date_place : (month date : ℕ) → ℕ
date_place month date = sum (take (month - 1) (month_lengths true)) + (date - 1)

-- the date a number of days after the first of a month is told by its month and its day; the list has the lengths of
-- the months from that one on, and there is no date if they have no more days than that number
abbrev pub date_from : (month : ℕ) → List ℕ → (days : ℕ) → Option (ℕ × ℕ)
date_from month [] days = None
date_from month (length ∷ lengths) days =
    if nat_lt days length then Some (month, days + 1) else date_from (month + 1) lengths (days - length)

-- the date of a place in a leap year is told by its month and its day: place 0 is 1 January, and there is none for a
-- place above 365
abbrev pub date_of_place : (place : ℕ) → Option (ℕ × ℕ)
date_of_place place = date_from 1 (month_lengths true) place
