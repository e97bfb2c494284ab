-- Rules: the contexts that a meter under a tariff can have, and their order.
use Rattle.std.specs.Prelude.{[], ℕ, ℤ, ◌+ℤ◌, ◌+◌, ◌<◌, ◌∷◌, ◌≡◌, ◌≤◌, List, None, Option, Some, if◌then◌else◌, nat_le}
use Rattle.{std.specs.Prelude.{pos}, taxi_units.specs.Time.{IsSecond}, interval_clock.specs.Offsets.{IsOffset}}
use Rattle.{drive_modes.specs.Constant.{greatest_constant, least_constant}, interval_clock.specs.Calendar.{date_after}}
use Rattle.{interval_clock.specs.LocalTime.{day_of, minute_of_day}, tariff_check.specs.Faults.{IsSound}}
use Rattle.tariff_calendar.specs.Lists.{is_holiday}
use Rattle.tariff_compare.specs.Common.{Context, IsBefore, IsFromTo, IsWritable, MeterContext, Tree, date_place}
use Rattle.tariff_compare.specs.Common.{last_tick, positions_of, weekday_of, zones_of}

-- a tariff has tables under a constant if a text can have its numbers, it is sound, and the constant is 500 to 200,000
pub record HasTables (t : Tree) (k : ℕ) : Type 0 where
  pub writable : IsWritable t
  pub sound : IsSound t
  pub constant : (least_constant ≤ k) × (k ≤ greatest_constant)

-- a meter has a day, told by its number, and a minute if they are local time at one of its seconds, under one offset of
-- at most 14 hours to either side
pub record IsMeterTime (day minute : ℕ) : Type 0 where
  pub second : ℕ
  pub offset : ℤ
  pub second_in : IsSecond second
  pub offset_in : IsOffset offset
  pub day_is : day_of (pos second +ℤ offset) ≡ pos day
  pub minute_is : minute_of_day (pos second +ℤ offset) ≡ minute

-- the times of a meter by their numbers: all minutes of the days 2000-01-01 to 2199-12-31; those of 1999-12-31 (day
-- 10956) from 10:00 (minute 600) on; and those of 2200-01-01 (day 84006) before 14:00 (minute 840)
pub record IsTimeOf (day minute : ℕ) : Type 0 where
  pub days : IsFromTo 10956 84006 day
  pub minutes : minute ≤ 1439
  pub first : day ≡ 10956 → 600 ≤ minute
  pub last : day ≡ 84006 → minute < 840

-- a trip is asked about at no more pulses than these; no distance that a tariff can name is more pulses, so further
-- pulses change nothing
abbrev pub most_pulses : ℕ
most_pulses = 20000000000000

-- a context is one of a meter under a tariff if the tariff has its position and zone, the meter has its day and minute,
-- and a trip that runs can have its ticks; its pulses are at most 2 * 10^13
pub record IsMeterContext (t : Tree) (m : MeterContext) : Type 0 where
  pub position : IsFromTo 1 (positions_of t.lines) m.position
  pub zone : IsFromTo 1 (zones_of t.lines) m.zone
  pub time : IsMeterTime m.day m.minute
  pub ticks : m.ticks ≤ last_tick
  pub pulses : m.pulses ≤ most_pulses

-- in a context of a meter the conditions of a tariff are asked with the meter's constant, the day's weekday and place
-- in a leap year, and whether the tariff has its date as a holiday
abbrev pub context_at : Tree → (k : ℕ) → MeterContext → Context
context_at t k m =
    let date = date_after m.day in
    record {
      constant = k;
      position = m.position;
      zone = m.zone;
      weekday = weekday_of (pos m.day);
      month_day = date_place date.month date.date;
      holiday = is_holiday t.lines date.year date.month date.date;
      minute = m.minute;
      pulses = m.pulses;
      ticks = m.ticks;
    }

-- contexts are asked about from 2026-01-01 on, told by its number
abbrev pub first_day : ℕ
first_day = 20454

-- in the order of days those from 2026-01-01 on come first, and then those before it
abbrev pub day_place : (day : ℕ) → ℕ
day_place day = if nat_le first_day day then day else day + 84006

-- the order of contexts is by position, zone, day, minute, ticks and pulses, of which an earlier one decides first
abbrev pub order_of : MeterContext → List ℕ
order_of m = m.position ∷ m.zone ∷ day_place m.day ∷ m.minute ∷ m.ticks ∷ m.pulses ∷ []

-- a context is earlier than another if it comes before it in the order of contexts
abbrev pub IsEarlier : (earlier later : MeterContext) → Type 0
IsEarlier m n = IsBefore (order_of m) (order_of n)

-- a context is the first one of a meter with a property if it is one of the meter and has the property, and no earlier
-- one has it
pub record IsFirst (t : Tree) (Has : MeterContext → Type 0) (m : MeterContext) : Type 0 where
  pub context : IsMeterContext t m
  pub has : Has m
  pub none_earlier : (n : MeterContext) → IsMeterContext t n → IsEarlier n m → ¬ Has n

-- an answer is the first context of a meter with a property, or none if no context of a meter has it
abbrev pub IsFirstOrNone : Tree → (MeterContext → Type 0) → Option MeterContext → Type 0
IsFirstOrNone t Has None = (n : MeterContext) → IsMeterContext t n → ¬ Has n
IsFirstOrNone t Has (Some m) = IsFirst t Has m
