-- Rules: local time, which is the day and the time of the day of a local second.
use Rattle.{std.specs.Int.{int_div_euclid, int_rem_euclid}, taxi_units.specs.Time.{first_second, last_second}}
use Rattle.std.specs.Prelude.{ℕ, ℤ, ◌+ℤ◌, ◌+◌, ◌/◌, ◌≤ℤ◌, ◌≤◌, List, pos, unsigned_abs}
use Rattle.interval_clock.specs.{Calendar.{date_after, date_place, weekday_of}, Offsets.{greatest_offset, offset_at}}
use Rattle.interval_clock.specs.declared.local_time.LocalTime.{LocalTime}

-- the local second is a second of UTC plus the offset in force at it
abbrev pub local_second : List (ℕ × ℤ) → (second : ℕ) → ℤ
local_second pairs second = pos second +ℤ offset_at pairs second

-- a local second of the meter lies at most 14 hours before the meter's first second, and at most 14 hours after its
-- last
abbrev pub IsLocalSecond : ℕ → Type 0
IsLocalSecond local = (first_second ≤ local + greatest_offset) × (local ≤ last_second + greatest_offset)

-- a local day of the meter is one of 1999-12-31 to 2200-01-01, as a day number
abbrev pub IsLocalDay : ℤ → Type 0
IsLocalDay day = (pos 10956 ≤ℤ day) × (day ≤ℤ pos 84006)

-- the day number of a local second is its number of whole days of 86,400 seconds from 1970-01-01
abbrev pub day_of : (local : ℤ) → ℤ
day_of local = int_div_euclid local (pos 86400)

-- the second of the day is the number of seconds from the last midnight to a local second
abbrev pub second_of_day : (local : ℤ) → ℕ
second_of_day local = unsigned_abs (int_rem_euclid local (pos 86400))

-- the minute of the day is the number of whole minutes from the last midnight to a local second
abbrev pub minute_of_day : (local : ℤ) → ℕ
minute_of_day local = second_of_day local / 60

-- the local time at a local second from 1970 on has the second's day, that day's date, weekday and place in a leap
-- year, and the minute and the second of the day
abbrev pub local_time_of : (local : ℤ) → LocalTime
local_time_of local =
    let day = day_of local in
    let date = date_after (unsigned_abs day) in
    record {
      day = day;
      year = date.year;
      month = date.month;
      date = date.date;
      weekday = weekday_of day;
      month_day = date_place date.month date.date;
      minute = minute_of_day local;
      second = second_of_day local;
    }

-- a local time has its parts in range: years 1999 to 2200, months 1 to 12, dates 1 to 31, weekdays 1 to 7, places in a
-- leap year up to 365, minutes below 1,440, and seconds below 86,400
pub record HasPartsInRange (time : LocalTime) : Type 0 where
  pub year : (1999 ≤ time.year) × (time.year ≤ 2200)
  pub month : (1 ≤ time.month) × (time.month ≤ 12)
  pub date : (1 ≤ time.date) × (time.date ≤ 31)
  pub weekday : (1 ≤ time.weekday) × (time.weekday ≤ 7)
  pub month_day : time.month_day ≤ 365
  pub minute : time.minute ≤ 1439
  pub second : time.second ≤ 86399
