-- Rules: the tables of a tariff under a constant, and what they are looked up for.
use Rattle.std.specs.{List.{range_with_len, slice_get}, Option.{unwrap_or}}
use Rattle.std.specs.Prelude.{ℕ, ◌*◌, ◌+◌, ◌/◌, ◌<◌, ◌^◌, ◌∷◌, ◌≡◌, ◌≤◌, List, Option, Some, get_or, if◌then◌else◌, map}
use Rattle.{taxi_units.specs.Money.{largest_display_step}, tariff_check.specs.SoundTariff.{SoundTariff, values_of}}
use Rattle.drive_modes.specs.{Constant.{greatest_constant, least_constant}, declared.meterage.Rounding.{Rounding}}
use Rattle.tariff_tree.specs.{Meaning.{choice_place, initial_place, minimum_place, rate_place}, Writable.{IsFromTo}}
use Rattle.tariff_check.specs.{Amounts.{initial_with}, Kinds.{is_asked_amid, part_of}, Parts.{initials_of, minimums_of}}
use Rattle.tariff_check.specs.{Cells.{day_kinds}, DisplayStep.{display_step}, SoundLookups.{place_in_force}}
use Rattle.tariff_check.specs.declared.choice.ChoiceKind.{ChoiceKind, TheVariants.{Initial, Minimum}}
use Rattle.tariff_compile.specs.Cells.{bands_at, bands_of, cell_count, cell_number, context_in, sizes_of}
use Rattle.tariff_compile.specs.Common.{Bands, CellLines, Context, CutLists, InitialNumbers, IsInRange, IsSound}
use Rattle.tariff_compile.specs.Common.{IsWritable, Rate, RateNumbers, Supplement, Tree, Weights, at_hiring, has_days}
use Rattle.tariff_compile.specs.Common.{lists_of, measure_of, place_number, positions_of, rates_of, sound_of}
use Rattle.tariff_compile.specs.{Common.{supplement_of, zones_of}, declared.tables.Tables.TheInside.{Inside}}
use Rattle.drive_modes.specs.Speed as speeds
use Rattle.tariff_check.specs.declared.values.Initial as fees

-- tables have a tariff's cuts, the weights of its rates, its initial hire fees, minimum fares, lines of cells and
-- supplements; and the constant, M, the display step, its rounding, the decimals, and how many positions and zones
-- there are
pub record TableParts : Type 0 where
  pub cuts : CutLists
  pub weights : List Weights
  pub initials : List InitialNumbers
  pub minimums : List ℕ
  pub cells : List CellLines
  pub supplements : List (Option Supplement)
  pub constant : ℕ
  pub measure : ℕ
  pub step : ℕ
  pub rounding : Rounding
  pub decimals : ℕ
  pub positions : ℕ
  pub zones : ℕ

-- the parts of the program's tables are what their lists and numbers have
abbrev pub parts_of : Inside → TableParts
parts_of t =
    record {
      cuts = t.cuts;
      weights = t.weights.items;
      initials = t.initials.items;
      minimums = t.minimums.items;
      cells = t.cells.items;
      supplements = t.supplements.items;
      constant = t.constant;
      measure = t.measure;
      step = t.step;
      rounding = t.rounding;
      decimals = t.decimals;
      positions = t.positions;
      zones = t.zones;
    }

-- the weights of a rate, of a pulse and of a tick, are in units of charge; k times the common measure of these make the
-- smallest unit of money
abbrev pub weights_of : (k common : ℕ) → RateNumbers → Weights
weights_of k common r = record { per_pulse = 10000 * r.a * (common / r.b); per_tick = r.c * k * (common / r.e) }

-- the rate that some numbers say, of which drive_modes tells the weights
abbrev pub own_rate : RateNumbers → speeds.Rate
own_rate r = record { a = r.a; b = r.b; c = r.c; e = r.e }

-- the weights in the tables of a tariff are those of each of its rates, in order
abbrev pub all_weights : Tree → (k : ℕ) → List Weights
all_weights t k = map (weights_of k (measure_of t.lines)) (rates_of t.lines)

-- the line of a kind that holds first in a context is told by its place among those of the kind, from 0; a kind that
-- can't count amid a trip is asked at the context's hiring
abbrev pub place_at : ChoiceKind → Tree → Context → Option ℕ
place_at kind t x = choice_place (part_of kind) t (if is_asked_amid kind then x else at_hiring x)

-- lines are made of the place of a line of each kind; a rate and an initial hire fee always hold, and have their places
-- from 0; a minimum fare has its number from 1, or 0 if there is none
abbrev pub lines_with : ((kind : ChoiceKind) → Option ℕ) → CellLines
lines_with place =
    record {
      rate = unwrap_or (place Rate) 0;
      initial = unwrap_or (place Initial) 0;
      minimum = place_number (place Minimum);
    }

-- the lines of a context are made of the line of each kind
abbrev pub lines_at : Tree → Context → CellLines
lines_at t x = lines_with (λ kind. place_at kind t x)

-- no lines are those of a cell that names none: each number is 0
abbrev pub no_lines : CellLines
no_lines = record { rate = 0; initial = 0; minimum = 0 }

-- the sizes of a tariff's dimensions are those of its positions, zones, kinds of days and cuts
abbrev pub sizes_in : Tree → (k : ℕ) → Bands
sizes_in t k = sizes_of (positions_of t.lines) (zones_of t.lines) (day_kinds t.lines) (lists_of t k)

-- the context of the cell with a number is at the beginning of each of its bands
abbrev pub context_of_cell : Tree → (k cell : ℕ) → Context
context_of_cell t k cell = context_in k (lists_of t k) (bands_of (sizes_in t k) cell)

-- the number of the cell of a context is made of its numbers in each dimension
abbrev pub cell_of : Tree → (k : ℕ) → Context → ℕ
cell_of t k x = cell_number (sizes_in t k) (bands_at (lists_of t k) x)

-- a cell has the lines of a context if they are the rate that holds first in it, and the initial hire fee and the
-- minimum fare that hold first at its hiring
pub record HasLinesOf (t : Tree) (x : Context) (lines : CellLines) : Type 0 where
  pub rate : rate_place t x ≡ Some lines.rate
  pub initial : initial_place t x ≡ Some lines.initial
  pub minimum : place_number (minimum_place t x) ≡ lines.minimum

-- the lines in the tables of a tariff are those of the context of each cell, in the order of the cells
abbrev pub all_cells : Tree → (k : ℕ) → List CellLines
all_cells t k = map (λ cell. lines_at t (context_of_cell t k cell)) (range_with_len 0 (cell_count (sizes_in t k)))

-- the tables of a tariff, if k pulses make a kilometre, have its cuts, the weights of its rates, its fees, minimum
-- fares, lines of cells and supplements, and as M k times the common measure
abbrev pub tables_of : Tree → (k : ℕ) → TableParts
tables_of t k =
    record {
      cuts = lists_of t k;
      weights = all_weights t k;
      initials = initials_of t.lines;
      minimums = minimums_of t.lines;
      cells = all_cells t k;
      supplements = map (λ place. supplement_of t.lines (place + 1)) (range_with_len 0 16);
      constant = k;
      measure = k * measure_of t.lines;
      step = (display_step t).0;
      rounding = (display_step t).1;
      decimals = t.decimals;
      positions = positions_of t.lines;
      zones = zones_of t.lines;
    }

-- the sizes of the dimensions of tables are those of their positions, zones, kinds of days and cuts
abbrev pub sizes_for : TableParts → Bands
sizes_for tables = sizes_of tables.positions tables.zones (if has_days tables.cuts then 2 else 1) tables.cuts

-- a trip under the tables may have a context if its position, zone and kind of day are among the tables', and its
-- numbers in their ranges
abbrev pub IsInRangeFor : TableParts → Context → Type 0
IsInRangeFor tables x = IsInRange tables.constant tables.positions tables.zones (has_days tables.cuts) x

-- tables are those of a tariff if the tariff is sound, a text can have its numbers, the constant is 500 to 200,000,
-- and the parts are the tariff's
pub record IsTablesOf (t : Tree) (tables : TableParts) : Type 0 where
  pub writable : IsWritable t
  pub sound : IsSound t
  pub constant : (least_constant ≤ tables.constant) × (tables.constant ≤ greatest_constant)
  pub parts : tables ≡ tables_of t tables.constant

-- parts are compiled if they are the tables of some tariff
abbrev pub IsCompiled : TableParts → Type 0
IsCompiled tables = (t : Tree) × IsTablesOf t tables

-- the weights in force in a context are those of the rate that holds first in it
abbrev pub weights_in_force : SoundTariff → (k : ℕ) → Context → Weights
weights_in_force tariff k x =
    get_or (map (weights_of k tariff.measure) (values_of tariff.rates))
    (unwrap_or (place_in_force tariff.rates x) 0) (record { per_pulse = 0; per_tick = 0 })

-- the weights of a context by the tree are those that are in force in it
abbrev pub rate_by : Tree → (k : ℕ) → Context → Weights
rate_by t k x = weights_in_force (sound_of t) k x

-- the lines that tables have for a context are those of the cell in which it is
abbrev pub lines_in : TableParts → Context → CellLines
lines_in tables x =
    get_or tables.cells (cell_number (sizes_for tables) (bands_at tables.cuts x)) no_lines

-- the fees that lines name in tables are an initial hire fee, and a minimum fare or 0
abbrev pub fees_named : TableParts → CellLines → fees.Initial
fees_named tables lines =
    initial_with (get_or tables.initials lines.initial (record { amount = 0; covers = 0 }))
    (get_or (0 ∷ tables.minimums) lines.minimum 0)

-- the fees that tables have for a context are those that its lines name
abbrev pub fees_in : TableParts → Context → fees.Initial
fees_in tables x = fees_named tables (lines_in tables x)

-- weights are those of a context if they are made of the numbers of the rate that holds first in it
pub record HasWeightsOf (t : Tree) (k : ℕ) (x : Context) (w : Weights) : Type 0 where
  pub place : ℕ
  pub rate : RateNumbers
  pub first : rate_place t x ≡ Some place
  pub there : slice_get (rates_of t.lines) place ≡ Some rate
  pub weights : w ≡ weights_of k (measure_of t.lines) rate

-- weights are fit if they are within the limits of charges, and a pulse is at most 20,000,000 of the smallest units
-- of money and a tick at most 1,000,000
pub record AreFit (measure : ℕ) (w : Weights) : Type 0 where
  pub per_pulse : w.per_pulse ≤ 10 ^ 28
  pub per_tick : w.per_tick ≤ 2 * 10 ^ 29
  pub pulse_units : w.per_pulse ≤ 2 * 10 ^ 7 * measure
  pub tick_units : w.per_tick ≤ 10 ^ 6 * measure

-- tables are fit if their measure, step, decimals, positions and zones are within their limits
pub record IsFit (tables : TableParts) : Type 0 where
  pub measure : (0 < tables.measure) × (tables.measure ≤ 2 * 10 ^ 23)
  pub step : IsFromTo 1 largest_display_step tables.step
  pub decimals : tables.decimals ≤ 3
  pub positions : IsFromTo 1 9 tables.positions
  pub zones : IsFromTo 1 9 tables.zones
