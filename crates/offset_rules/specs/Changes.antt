-- Rules: the dates of changes, in the words of the calendar.
use Rattle.{std.specs.{List.{range_with_len}, Prelude.{slice_index}}, interval_clock.specs.Calendar.{weekday_of}}
use Rattle.std.specs.Prelude.{ℕ, ◌*◌, ◌+◌, ◌-◌, ◌<◌, ◌==◌, ◌≡◌, ◌≢◌, ◌≤◌, ◌⊎◌, List, filter, if◌then◌else◌, length, pos}
use Rattle.offset_rules.specs.{Common.{IsDate, day_number_of, days_of_month}, Rule.{Change}}

-- the weekday of a date of 1970 or later is that of its day number
abbrev pub weekday_on : (year month date : ℕ) → ℕ
weekday_on year month date = weekday_of (pos (day_number_of year month date))

-- the times of a weekday before a date are the number of earlier dates of the month on which it falls
unfoldable pub times_before : (year month weekday date : ℕ) → ℕ
times_before year month weekday date =
    length (filter (λ earlier. weekday_on year month earlier == weekday) (range_with_len 1 (date - 1)))

-- a weekday comes no more in a month after a date if each later date of the month has another weekday
abbrev pub IsLastInMonth : (year month weekday date : ℕ) → Type 0
IsLastInMonth year month weekday date =
    (later : ℕ) → date < later → IsDate year month later → weekday_on year month later ≢ weekday

-- a date of the change's month is that of the change if it has the change's weekday, which comes one time less before
-- it than the number says, or no more after it if the number is 5, for the last
pub record IsDateOfChange (year : ℕ) (change : Change) (date : ℕ) : Type 0 where
  pub there : IsDate year change.month date
  pub weekday : weekday_on year change.month date ≡ change.weekday
  pub named :
      ((change.number ≤ 4) × (times_before year change.month change.weekday date + 1 ≡ change.number))
      ⊎ ((change.number ≡ 5) × IsLastInMonth year change.month change.weekday date)

-- the dates of a month on a weekday are those that fall on it, in order
abbrev pub dates_on : (year month weekday : ℕ) → List ℕ
dates_on year month weekday =
    filter (λ date. weekday_on year month date == weekday) (range_with_len 1 (days_of_month year month))

-- a change stands among the dates of its weekday at the place of its number, counted from 1, and at the last for 5
abbrev pub place_among : (number : ℕ) → (dates : List ℕ) → ℕ
place_among number dates = if number == 5 then length dates - 1 else number - 1

-- the date of a change in a year is the one at its place among the dates of its month that fall on its weekday
unfoldable pub date_of_change : (year : ℕ) → Change → ℕ
date_of_change year change =
    slice_index (dates_on year change.month change.weekday)
    (place_among change.number (dates_on year change.month change.weekday))

-- the second of a change in a year is the beginning of its minute, in UTC, on its date
unfoldable pub second_of_change : (year : ℕ) → Change → ℕ
second_of_change year change =
    day_number_of year change.month (date_of_change year change) * 86400 + change.minute * 60
