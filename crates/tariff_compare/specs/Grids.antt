-- For proofs: the contexts that are looked at, at least one of each common cell of two tariffs.
use Rattle.{std.specs.List.{list_any, range_with_len}, interval_clock.specs.Calendar.{date_after}}
use Rattle.std.specs.Prelude.{[], ℕ, ◌&&◌, ◌++◌, ◌+◌, ◌-◌, ◌<◌, ◌==◌, ◌||◌, ◌∷◌, ◌≡◌, ◌≤◌, All, Bool, List, false}
use Rattle.std.specs.Prelude.{filter, if◌then◌else◌, length, nat_le, nat_lt, not, pos, suc, true, zero}
use Rattle.tariff_compare.specs.Common.{Day, IsFromTo, MeterContext, TableParts, count_at_most, date_place, last_tick}
use Rattle.tariff_compare.specs.{Common.{weekday_of, with_each}, Contexts.{most_pulses}, Sides.{is_holiday_among}}

-- ---- days

-- what two tariffs ask of a day, by their tables: its weekday, its place in a leap year, and for each of them whether
-- it is a holiday and between which cuts it lies
abbrev pub day_in : (one other : TableParts) → (number : ℕ) → Day
day_in one other number =
    let date = date_after number in
    let place = date_place date.month date.date in
    record {
      number = number;
      weekday = weekday_of (pos number);
      month_day = place;
      holiday = is_holiday_among one.cuts.holidays number;
      other_holiday = is_holiday_among other.cuts.holidays number;
      band = count_at_most place one.cuts.month_days;
      other_band = count_at_most place other.cuts.month_days;
    }

-- a day is at an edge of the meter's days if it is 1999-12-31 or 2200-01-01
abbrev pub is_edge : (number : ℕ) → Bool
is_edge number = (number == 10956) || (number == 84006)

-- two truth values are the same if both are true, or neither is
abbrev pub is_same : (one other : Bool) → Bool
is_same true other = other
is_same false other = not other

-- two days are alike if neither is at an edge, and both tariffs ask the same of them
abbrev pub is_alike : (one other : Day) → Bool
is_alike d e =
    not (is_edge d.number)
    && (not (is_edge e.number)
    && ((d.weekday == e.weekday)
    && ((d.band == e.band)
    && ((d.other_band == e.other_band)
    && (is_same d.holiday e.holiday && is_same d.other_holiday e.other_holiday)))))

-- the day at a place in the order of days, from 0: from 2026-01-01 to 2200-01-01, and then from 1999-12-31 on
abbrev pub day_at : (place : ℕ) → ℕ
day_at place = if nat_lt place 63553 then 20454 + place else place - 52597

-- the meter has this many days
abbrev pub day_count : ℕ
day_count = 73051

-- a day is kept behind others if none of them is alike
abbrev pub with_day : List Day → Day → List Day
with_day days day = if list_any (λ d. is_alike d day) days then days else days ++ day ∷ []

-- of the days before a place in the order of days, those are kept that are like none before them
unfoldable pub days_until : (one other : TableParts) → (place : ℕ) → List Day
days_until one other zero = []
days_until one other (suc place) = with_day (days_until one other place) (day_in one other (day_at place))

-- ---- times

-- the test of the meter's times: each minute of a day, but of 1999-12-31 those from 10:00 on, and of 2200-01-01 those
-- before 14:00
abbrev pub is_meter_time : (day minute : ℕ) → Bool
is_meter_time day minute =
    if day == 10956 then nat_le 600 minute else (if day == 84006 then nat_lt minute 840 else true)

-- ---- the grid

-- numbers that are at most another
abbrev pub up_to : (most : ℕ) → List ℕ → List ℕ
up_to most numbers = filter (λ n. nat_le n most) numbers

-- a list of the grid has some beginnings and the cuts of both tariffs, each once and in order, up to the most that a
-- meter has
abbrev pub listed : (most : ℕ) → (beginnings one other : List ℕ) → List ℕ
listed most beginnings one other =
    with_each (with_each (with_each [] (up_to most beginnings)) (up_to most one)) (up_to most other)

-- a grid has positions, zones, days, minutes, ticks and pulses; each combination is looked at that is a time of the
-- meter
pub record GridLists : Type 0 where
  pub positions : List ℕ
  pub zones : List ℕ
  pub days : List Day
  pub minutes : List ℕ
  pub ticks : List ℕ
  pub pulses : List ℕ

-- the grid of two tariffs, by their tables, has the positions and zones of the first, a day of each kind, and the
-- beginnings of all bands
abbrev pub grid_of : (one other : TableParts) → GridLists
grid_of one other = record {
  positions = range_with_len 1 one.positions;
  zones = range_with_len 1 one.zones;
  days = days_until one other day_count;
  minutes = listed 1439 (0 ∷ 600 ∷ []) one.cuts.minutes other.cuts.minutes;
  ticks = listed last_tick (0 ∷ []) one.cuts.times other.cuts.times;
  pulses = listed most_pulses (0 ∷ []) one.cuts.distances other.cuts.distances;
}

-- a day of a grid is one of the meter, with what both tariffs ask of it
pub record IsDayIn (one other : TableParts) (day : Day) : Type 0 where
  pub range : IsFromTo 10956 84006 day.number
  pub is : day ≡ day_in one other day.number

-- a day has the weekday and the place in a leap year of a day number
pub record HasDate (day : Day) (number : ℕ) : Type 0 where
  pub weekday : day.weekday ≡ weekday_of (pos number)
  pub month_day : day.month_day ≡ date_place (date_after number).month (date_after number).date

-- the lists of a grid are so short that its contexts can be counted
pub record AreShort (grid : GridLists) : Type 0 where
  pub positions : length grid.positions ≤ 9
  pub zones : length grid.zones ≤ 9
  pub days : length grid.days ≤ day_count
  pub minutes : length grid.minutes ≤ 128
  pub ticks : length grid.ticks ≤ 31
  pub pulses : length grid.pulses ≤ 31

-- a grid is one of two tariffs' tables if each of its numbers is one that a meter under both can have, and it is short
pub record IsGridOf (one other : TableParts) (grid : GridLists) : Type 0 where
  pub short : AreShort grid
  pub positions : All (λ n. IsFromTo 1 one.positions n × IsFromTo 1 other.positions n) grid.positions
  pub zones : All (λ n. IsFromTo 1 one.zones n × IsFromTo 1 other.zones n) grid.zones
  pub days : All (IsDayIn one other) grid.days
  pub minutes : All (λ n. n ≤ 1439) grid.minutes
  pub ticks : All (λ n. n ≤ last_tick) grid.ticks
  pub pulses : All (λ n. n ≤ most_pulses) grid.pulses

-- a context of a grid can be looked up in tables if its numbers are in their ranges
pub record CanBeAsked (tables : TableParts) (m : MeterContext) : Type 0 where
  pub position : IsFromTo 1 tables.positions m.position
  pub zone : IsFromTo 1 tables.zones m.zone
  pub day : IsFromTo 10956 84006 m.day
  pub minute : m.minute ≤ 1439
  pub ticks : m.ticks ≤ last_tick
  pub pulses : m.pulses ≤ most_pulses

-- a context of a grid can be looked up in both tables
pub record CanAskBoth (tables others : TableParts) (m : MeterContext) : Type 0 where
  pub one : CanBeAsked tables m
  pub other : CanBeAsked others m
