-- The local time at a local second is one.
use Rattle.std.proofs.Common.{ℕ, ℤ, ◌%◌, ◌*ℤ◌, ◌*◌, ◌+ℤ◌, ◌+◌, ◌<◌, ◌≡◌, ◌≤ℤ◌, ap, arith, pos, unsigned_abs}
use Rattle.jiff_core.proofs.SignedLemmas.{signed_arith}
use Rattle.interval_clock.specs.Calendar.{IsDateOf, date_after, date_place, weekday_of}
use Rattle.interval_clock.specs.LocalTime.{day_of, local_time_of, minute_of_day, second_of_day}
use Rattle.interval_clock.specs.declared.{day_numbers.CalendarDate.{CalendarDate}, local_time.LocalTime.{LocalTime}}
use Rattle.interval_clock.proofs.{CalendarDays.{IsDateOf-date_after, IsDateOf-only}, Dates.{pos-unsigned_abs}}

abbrev date_in : LocalTime → CalendarDate
date_in time = record { year = time.year; month = time.month; date = time.date }

-- the date of a day from 1970 on is found by going on from 1970-01-01
date_in-date_after : (time : LocalTime) → pos 0 ≤ℤ time.day → IsDateOf time.day time.year time.month time.date
    → date_in time ≡ date_after (unsigned_abs time.day)
date_in-date_after time from is_date =
    IsDateOf-only time.day (date_in time) (date_after (unsigned_abs time.day)) is_date
    (rw (pos-unsigned_abs time.day from) at (IsDateOf-date_after (unsigned_abs time.day)))

abbrev time_is : (day : ℤ) (year month date weekday month_day minute second : ℕ) → LocalTime
time_is day year month date weekday month_day minute second = record {
  day = day;
  year = year;
  month = month;
  date = date;
  weekday = weekday;
  month_day = month_day;
  minute = minute;
  second = second;
}

same_parts : (day day₂ : ℤ)
    (year month date weekday month_day minute second year₂ month₂ date₂ weekday₂ month_day₂ minute₂ second₂ : ℕ)
    → day ≡ day₂ → year ≡ year₂ → month ≡ month₂ → date ≡ date₂ → weekday ≡ weekday₂ → month_day ≡ month_day₂
    → minute ≡ minute₂ → second ≡ second₂ → time_is day year month date weekday month_day minute second
    ≡ time_is day₂ year₂ month₂ date₂ weekday₂ month_day₂ minute₂ second₂
same_parts day day₂ year month date weekday month_day minute second year₂ month₂ date₂ weekday₂ month_day₂ minute₂
    second₂ e f g h i j k l = cc

-- local times with the same parts are the same
same_time : (a b : LocalTime) → a.day ≡ b.day → a.year ≡ b.year → a.month ≡ b.month → a.date ≡ b.date
    → a.weekday ≡ b.weekday → a.month_day ≡ b.month_day → a.minute ≡ b.minute → a.second ≡ b.second → a ≡ b
same_time a b day year month date weekday month_day minute second =
    same_parts _ _ _ _ _ _ _ _ _ _ _ _ _ _ _ _ day year month date weekday month_day minute second

-- a local time with these parts is that of the local second
pub is_local_time_of : (time : LocalTime) (local : ℤ) → pos 0 ≤ℤ time.day → time.day ≡ day_of local
    → IsDateOf time.day time.year time.month time.date → time.weekday ≡ weekday_of time.day
    → time.month_day ≡ date_place time.month time.date → time.minute ≡ minute_of_day local
    → time.second ≡ second_of_day local → time ≡ local_time_of local
is_local_time_of time local from day is_date weekday month_day minute second =
    let dates = rw day at (date_in-date_after time from is_date) in
    let year : time.year ≡ (date_after (unsigned_abs (day_of local))).year = ap (λ (d : CalendarDate). d.year) dates in
    let month : time.month ≡ (date_after (unsigned_abs (day_of local))).month =
    ap (λ (d : CalendarDate). d.month) dates in
    let date : time.date ≡ (date_after (unsigned_abs (day_of local))).date = ap (λ (d : CalendarDate). d.date) dates in
    same_time time (local_time_of local) day year month date (rw (← day) weekday)
    (rw (← month, ← date) month_day) minute second

-- the day and the second of the day are the local second's
pub local_time_sum : (local : ℤ) → day_of local *ℤ pos 86400 +ℤ pos (second_of_day local) ≡ local
local_time_sum local = omega (arith, signed_arith)

pub second_within : (local : ℤ) → second_of_day local < 86400
second_within local = omega (arith, signed_arith)

-- and the minute of the day that second's
pub minute_sum : (local : ℤ) → minute_of_day local * 60 + second_of_day local % 60 ≡ second_of_day local
minute_sum local = omega arith
