-- For proofs: dates, days and local times at the front of a text, read in the stages of the code. Grammar says by
-- IsDateText, IsDayText and IsStampText which texts they are.
use Rattle.std.specs.Prelude.{ℕ, ℤ, ◌&&◌, ◌*◌, ◌+◌, List, None, Option, Some, codes, if◌then◌else◌, nat_le, pos}
use Rattle.{taxi_units.specs.Reading.{word_at}, interval_clock.specs.Calendar.{day_number_of, is_date}}
use Rattle.{seal_record.specs.Limits.{first_day, last_day}, receipt_text.specs.Figures.{number_behind, number_below}}
use Rattle.receipt_text.specs.Common.{◌>>=◌, CalendarDate, Stamp}

-- a year, a month and a date in it stand at the front, with hyphens between them, and this text behind them
unfoldable pub date_at : List ℕ → Option (CalendarDate × List ℕ)
date_at text = do
  year ← number_below 10000 text
  month ← number_behind (codes "-") 100 year.1
  date ← number_behind (codes "-") 100 month.1
  Some (record { year = year.0; month = month.0; date = date.0 }, date.1)

-- a day number is kept if it is one of the years 2000 to 2199, and is none otherwise
abbrev pub where_secured : ℕ → Option ℤ
where_secured day = if nat_le first_day day && nat_le day last_day then Some (pos day) else None

-- a date has this day number, if the calendar has the date and its year is one of 2000 to 2199
abbrev pub day_of : CalendarDate → Option ℤ
day_of d =
    if nat_le 1970 d.year && is_date d.year d.month d.date then where_secured (day_number_of d.year d.month d.date)
    else None

-- the date of this day number stands at the front, and this text behind it
unfoldable pub day_at : List ℕ → Option (ℤ × List ℕ)
day_at text = do
  date ← date_at text
  day ← day_of date.0
  Some (day, date.1)

-- hours, minutes and seconds stand at the front, with colons between them, and make this second of the day; this text
-- stands behind them
unfoldable pub time_at : List ℕ → Option (ℕ × List ℕ)
time_at text = do
  hours ← number_below 100 text
  minutes ← number_behind (codes ":") 100 hours.1
  seconds ← number_behind (codes ":") 100 minutes.1
  Some (hours.0 * 3600 + minutes.0 * 60 + seconds.0, seconds.1)

-- a date and a second of the day stand at the front, with a blank between them, and this text behind them
unfoldable pub stamp_at : List ℕ → Option (Stamp × List ℕ)
stamp_at text = do
  date ← date_at text
  time ← word_at (codes " ") date.1
  second ← time_at time
  Some (record { year = date.0.year; month = date.0.month; date = date.0.date; second = second.0 }, second.1)

-- `word` and behind it a date and a second of the day stand at the front, and this text behind them
abbrev pub stamp_behind : (word : List ℕ) → List ℕ → Option (Stamp × List ℕ)
stamp_behind word text = word_at word text >>= stamp_at
