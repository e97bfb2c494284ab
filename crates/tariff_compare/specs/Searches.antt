-- By law: the first context of a grid that meets a test, in the order of their numbers. The laws
-- first_contexts_are_first and differences_are_first say what the answers mean.
use Rattle.{std.specs.List.{range_with_len}, tariff_compare.specs.Common.{Day, MeterContext, Question, Tree}}
use Rattle.std.specs.Prelude.{ℕ, ◌%◌, ◌&&◌, ◌*◌, ◌/◌, ◌<◌, Bool, List, Option, find, get_or, length, map, option_map}
use Rattle.tariff_compare.specs.{Grids.{GridLists, grid_of, is_meter_time}, Sides.{SideParts, is_met_by, side_of}}

-- the days of a grid by their numbers
abbrev pub day_numbers : GridLists → List ℕ
day_numbers grid = map (λ (d : Day). d.number) grid.days

-- a grid has as many contexts as the product of the lengths of its lists, also those that are no time of the meter
abbrev pub context_count : GridLists → ℕ
context_count grid =
    length grid.positions * length grid.zones * length grid.days * length grid.minutes * length grid.ticks
    * length grid.pulses

-- contexts are numbered from 0, the pulses running fastest; without pulses, ticks and minutes, a number is that of the
-- position, the zone and the day
abbrev pub day_part : GridLists → (number : ℕ) → ℕ
day_part grid number = number / length grid.pulses / length grid.ticks / length grid.minutes

-- the context with a number has of each list the element at the number's remainder, and of the positions the one that
-- is left; `days` is the number without pulses, ticks and minutes
abbrev pub context_with : GridLists → (number days : ℕ) → MeterContext
context_with grid number days =
    record {
      position = get_or grid.positions (days / length grid.days / length grid.zones) 0;
      zone = get_or grid.zones (days / length grid.days % length grid.zones) 0;
      day = get_or (day_numbers grid) (days % length grid.days) 0;
      minute = get_or grid.minutes (number / length grid.pulses / length grid.ticks % length grid.minutes) 0;
      ticks = get_or grid.ticks (number / length grid.pulses % length grid.ticks) 0;
      pulses = get_or grid.pulses (number % length grid.pulses) 0;
    }

-- the context of a grid with a number, from 0
abbrev pub context_of : GridLists → (number : ℕ) → MeterContext
context_of grid number = context_with grid number (day_part grid number)

-- a number is that of a context of a grid if each of its lists has an element there
pub record IsNumbered (grid : GridLists) (number : ℕ) : Type 0 where
  pub position : day_part grid number / length grid.days / length grid.zones < length grid.positions
  pub zone : day_part grid number / length grid.days % length grid.zones < length grid.zones
  pub day : day_part grid number % length grid.days < length grid.days
  pub minute : number / length grid.pulses / length grid.ticks % length grid.minutes < length grid.minutes
  pub ticks : number / length grid.pulses % length grid.ticks < length grid.ticks
  pub pulses : number % length grid.pulses < length grid.pulses

-- the test `is_found` is true if a context is a time of the meter and meets the test
abbrev pub is_found : (MeterContext → Bool) → MeterContext → Bool
is_found met m = is_meter_time m.day m.minute && met m

-- the first context of a grid, by its number, that is a time of the meter and meets the test
abbrev pub in_grid : (MeterContext → Bool) → GridLists → Option MeterContext
in_grid met grid =
    option_map (context_of grid)
    (find (λ number. is_found met (context_of grid number)) (range_with_len 0 (context_count grid)))

-- the first context that meets a question of two sides
abbrev pub first_met_by : (one other : SideParts) → Question → Option MeterContext
first_met_by one other question = in_grid (is_met_by one other question) (grid_of one.tables other.tables)

-- the first context that meets a question of two tariffs
abbrev pub first_met : (t u : Tree) (k : ℕ) → Question → Option MeterContext
first_met t u k question = first_met_by (side_of t k) (side_of u k) question
