-- What compiled tables have: the ranges of their numbers, and what is looked up in them.
use Rattle.std.proofs.Common.{[], ℕ, ℤ, ◌*◌, ◌+◌, ◌-◌, ◌<◌, ◌^◌, ◌∙◌, ◌∷◌, ◌≡◌, ◌≤◌, All, Bool, List, None, Option, ap}
use Rattle.std.proofs.{Common.{arith, false, get_or, if◌then◌else◌, length, ltb, subst, sym, true}, lemmas.Nat.{mul-le}}
use Rattle.std.proofs.{Math.Nat.{mul-pos, mul_assoc}, lemmas.Option.{slice_get-get_or}}
use Rattle.std.proofs.lemmas.{Bool.{lt-ltb}, List.FromFn.{get_or-map-range_with_len, length-map-range_with_len}}
use Rattle.std.proofs.lemmas.List.{get_or-map, get_or_default, length-map, Elements.{All-map, All-weaker}}
use Rattle.{taxi_units.specs.Counted.{IsElement}, interval_clock.specs.Calendar.{IsDateOf}}
use Rattle.{tariff_tree.specs.Writable.{IsFromTo}, tariff_check.specs.Parts.{has_holidays, initials_of}}
use Rattle.tariff_check.specs.{Cells.{cells_of, day_kinds}, Cuts.{count_of, cuts_of}}
use Rattle.tariff_check.specs.declared.fault.Dimension.TheVariants.{Distance, Minute, MonthDay, Time}
use Rattle.tariff_check.proofs.Laws.{lines_that_hold_are_there-initial, lines_that_hold_are_there-rate}
use Rattle.tariff_check.proofs.Laws.{sound_tariffs_have_sound_parts-parts, supplements_are_numbered_to_16}
use Rattle.tariff_calendar.specs.Lists.{is_holiday, pulses_for}
use Rattle.tariff_calendar.proofs.Laws.{holidays_are_dates-dates, holidays_are_dates-some, lists_are_ordered-hiring}
use Rattle.tariff_compile.specs.Cells.{IsBelow, IsNarrow, bands_at, bands_of, cell_count, cell_number, sizes_of}
use Rattle.tariff_compile.specs.Common.{Bands, CellLines, Context, CutLists, HasSoundParts, IsInRange, IsInRangeOf}
use Rattle.tariff_compile.specs.Common.{IsSound, IsSoundRate, IsWritable, Rate, RateNumbers, Supplement, Tree, Weights}
use Rattle.tariff_compile.specs.Common.{at_hiring, count_at_most, has_day, has_days, lists_of, measure_of, positions_of}
use Rattle.tariff_compile.specs.Common.{rates_of, supplement_of, zones_of}
use Rattle.tariff_compile.specs.Tables.{AreFit, HasWeightsOf, IsCompiled, IsFit, IsInRangeFor, IsTablesOf, TableParts}
use Rattle.tariff_compile.specs.Tables.{all_cells, all_weights, context_of_cell, lines_at, lines_in, no_lines, rate_by}
use Rattle.tariff_compile.{specs.Tables.{sizes_for, sizes_in, tables_of, weights_of}, proofs.Fits.{weights_of-fit}}
use Rattle.tariff_compile.proofs.CellNumbers.{bands_of-below, cell_number_below}
use Rattle.tariff_compile.proofs.ContextLines.{bands_at-below, cell_has_lines}

-- the parts of the tariff of which these are the tables
pub parts_of_tree : (t : Tree) (tables : TableParts) → IsTablesOf t tables → HasSoundParts t
parts_of_tree t tables is = sound_tariffs_have_sound_parts-parts t is.writable is.sound

pub measure_range : (tables : TableParts) → IsCompiled tables → (0 < tables.measure) × (tables.measure ≤ 2 * 10 ^ 23)
measure_range tables (t, is) =
    let parts = parts_of_tree t tables is in
    let k = tables.constant in
    let same = ap (λ (p : TableParts). p.measure) is.parts in
    rw same
    (mul-pos (omega (arith, is.constant.0)) parts.measure.0, mul-le k _ 200000 (10 ^ 18) is.constant.1 parts.measure.1)

-- tables have their numbers in their ranges
pub tables_fit : (tables : TableParts) → IsCompiled tables → IsFit tables
tables_fit tables (t, is) =
    let parts = parts_of_tree t tables is in
    record {
      measure = measure_range tables (t, is);
      step = rw (ap (λ (p : TableParts). p.step) is.parts, parts.step.1) parts.step.2;
      decimals = rw (ap (λ (p : TableParts). p.decimals) is.parts) parts.decimals;
      positions = rw (ap (λ (p : TableParts). p.positions) is.parts) parts.positions;
      zones = rw (ap (λ (p : TableParts). p.zones) is.parts) parts.zones;
    }

together : (n a b c d : ℕ) → n * a * b * c * d ≡ n * (a * b * c * d)
together n a b c d =
    sym (sym (mul_assoc n (a * b * c) d)
    ∙ ap (λ m. m * d) (sym (mul_assoc n (a * b) c) ∙ ap (λ m. m * c) (sym (mul_assoc n a b))))

day_kinds-some : (holidays : Bool) → 0 < (if holidays then 2 else 1)
day_kinds-some true = omega arith
day_kinds-some false = omega arith

-- the cells are counted alike
pub cell_count-cells_of : (t : Tree) (k : ℕ) → cell_count (sizes_in t k) ≡ cells_of t.lines
cell_count-cells_of t k =
    rw (length-map (cuts_of Distance t.lines) (pulses_for k))
    (together (positions_of t.lines * zones_of t.lines * 7 * day_kinds t.lines) (count_of MonthDay t.lines + 1)
    (count_of Minute t.lines + 1) (count_of Distance t.lines + 1) (count_of Time t.lines + 1))

pub cell_count-most : (t : Tree) (k : ℕ) → IsWritable t → IsSound t → cell_count (sizes_in t k) ≤ 64512
cell_count-most t k writable sound =
    rw (cell_count-cells_of t k) (sound_tariffs_have_sound_parts-parts t writable sound).cells.1

pub length-all_cells : (t : Tree) (k : ℕ) → length (all_cells t k) ≡ cell_count (sizes_in t k)
length-all_cells t k =
    length-map-range_with_len (λ (cell : ℕ). lines_at t (context_of_cell t k cell)) 0 (cell_count (sizes_in t k))

-- a cell's bands are ones that the dimensions have
pub bands_in-below : (t : Tree) (k cell : ℕ) → HasSoundParts t → cell < cells_of t.lines
    → IsBelow (sizes_in t k) (bands_of (sizes_in t k) cell)
bands_in-below t k cell parts below =
    bands_of-below (sizes_in t k) cell parts.zones.0 (omega arith) (day_kinds-some (has_holidays t.lines)) (omega arith)
    (omega arith) (omega arith) (omega arith)
    (rw (cell_count-cells_of t k) below)

-- and the positions, zones and weekdays are few
pub bands_in-narrow : (t : Tree) (k cell : ℕ) → HasSoundParts t → cell < cells_of t.lines
    → IsNarrow (bands_of (sizes_in t k) cell)
bands_in-narrow t k cell parts below =
    let is = bands_in-below t k cell parts below in
    record {
      position = omega (arith, is.position, parts.positions.1);
      zone = omega (arith, is.zone, parts.zones.1);
      weekday = is.weekday;
    }

-- the sizes of the tables' dimensions are those of the tariff
sizes_of_tree : (t : Tree) (k : ℕ) → sizes_for (tables_of t k) ≡ sizes_in t k
sizes_of_tree t k = ap (λ (holidays : Bool). sizes_of (positions_of t.lines) (zones_of t.lines)
    (if holidays then 2 else 1) (lists_of t k)) (holidays_are_dates-some t k)

-- the sizes that a tree's positions, zones and cuts give are the tree's
pub sizes_checked : (t : Tree) (k positions zones : ℕ) (cuts : CutLists) → positions ≡ positions_of t.lines
    → zones ≡ zones_of t.lines → cuts ≡ lists_of t k
    → sizes_of positions zones (if has_days cuts then 2 else 1) cuts ≡ sizes_in t k
sizes_checked t k positions zones cuts positions_are zones_are cuts_are =
    rw (positions_are, zones_are, cuts_are) (sizes_of_tree t k)

pub sizes_of_tables : (t : Tree) (tables : TableParts) → IsTablesOf t tables
    → sizes_for tables ≡ sizes_in t tables.constant
sizes_of_tables t tables is = ap sizes_for is.parts ∙ sizes_of_tree t tables.constant

-- a context that the tables' numbers allow is one that the tariff allows
pub in_range_of : (t : Tree) (tables : TableParts) (x : Context) → IsTablesOf t tables → IsInRangeFor tables x
    → IsInRangeOf t tables.constant x
in_range_of t tables x is x_in =
    subst (λ (holidays : Bool). IsInRange tables.constant (positions_of t.lines) (zones_of t.lines) holidays x)
    (holidays_are_dates-some t tables.constant)
    (subst (λ (p : TableParts). IsInRange tables.constant p.positions p.zones (has_days p.cuts) x) is.parts x_in)

-- and so is it at the hiring
pub in_range-hiring : (tables : TableParts) (x : Context) → IsInRangeFor tables x → IsInRangeFor tables (at_hiring x)
in_range-hiring tables x x_in = record {
  constant = x_in.constant;
  position = x_in.position;
  zone = x_in.zone;
  weekday = x_in.weekday;
  month_day = x_in.month_day;
  minute = x_in.minute;
  holiday = x_in.holiday;
  pulses = omega arith;
  ticks = omega arith;
}

-- its cell is there
pub bands-below : (tables : TableParts) (x : Context) → IsInRangeFor tables x
    → IsBelow (sizes_for tables) (bands_at tables.cuts x)
bands-below tables x x_in =
    bands_at-below tables.constant tables.positions tables.zones (has_days tables.cuts) tables.cuts x x_in

pub sizes_for-most : (tables : TableParts) → IsCompiled tables → cell_count (sizes_for tables) ≤ 64512
sizes_for-most tables (t, is) = subst (λ (s : Bands). cell_count s ≤ 64512) (sym (sizes_of_tables t tables is))
    (cell_count-most t tables.constant is.writable is.sound)

pub length-cells : (tables : TableParts) → IsCompiled tables → length tables.cells ≡ cell_count (sizes_for tables)
length-cells tables (t, is) =
    ap (λ (p : TableParts). length p.cells) is.parts
    ∙ (length-all_cells t tables.constant ∙ ap cell_count (sym (sizes_of_tables t tables is)))

-- with the lines that hold first
pub lines-found : (t : Tree) (tables : TableParts) (x : Context) (lines : CellLines) → IsTablesOf t tables
    → IsInRangeFor tables x → IsElement tables.cells (cell_number (sizes_for tables) (bands_at tables.cuts x)) lines
    → lines ≡ lines_at t x
lines-found t tables x lines is x_in found =
    let k = tables.constant in
    found lines
    ∙ (ap (λ (p : TableParts). get_or p.cells (cell_number (sizes_for p) (bands_at p.cuts x)) lines) is.parts
    ∙ (ap (λ (s : Bands). get_or (all_cells t k) (cell_number s (bands_at (lists_of t k) x)) lines) (sizes_of_tree t k)
    ∙ cell_has_lines t k x lines is.writable is.sound (in_range_of t tables x is x_in)))

pub lines-found_at : (t : Tree) (tables : TableParts) (x : Context) (bands : Bands) (lines : CellLines)
    → IsTablesOf t tables → IsInRangeFor tables x → bands ≡ bands_at tables.cuts x
    → IsElement tables.cells (cell_number (sizes_for tables) bands) lines → lines ≡ lines_at t x
lines-found_at t tables x bands lines is x_in same found =
    lines-found t tables x lines is x_in
    (subst (λ (b : Bands). IsElement tables.cells (cell_number (sizes_for tables) b) lines) same found)

-- the lines that tables have for a context are those of the tree
pub lines_in_is : (t : Tree) (tables : TableParts) (x : Context) → IsTablesOf t tables → IsInRangeFor tables x
    → lines_in tables x ≡ lines_at t x
lines_in_is t tables x is x_in =
    let cell = cell_number (sizes_for tables) (bands_at tables.cuts x) in
    let below : cell < length tables.cells = rw (length-cells tables (t, is))
    (cell_number_below (sizes_for tables) (bands_at tables.cuts x) (bands-below tables x x_in)) in
    lines-found t tables x (lines_in tables x) is x_in
    (λ other. get_or_default tables.cells cell no_lines other below)

-- at the hiring no distance and no time is cut
pub nothing_at_hiring : (tables : TableParts) → IsCompiled tables
    → (count_at_most 0 tables.cuts.distances ≡ 0) × (count_at_most 0 tables.cuts.times ≡ 0)
nothing_at_hiring tables (t, is) =
    let none = lists_are_ordered-hiring t tables.constant is.writable is.sound (omega (arith, is.constant.0)) in (
      ap (λ (p : TableParts). count_at_most 0 p.cuts.distances) is.parts ∙ none.0,
      ap (λ (p : TableParts). count_at_most 0 p.cuts.times) is.parts ∙ none.1,
    )

pub rate_place-below : (t : Tree) (x : Context) → IsSound t → (lines_at t x).rate < length (rates_of t.lines)
rate_place-below t x sound = let always = lines_that_hold_are_there-rate t x sound in rw always.1 always.2

pub initial_place-below : (t : Tree) (x : Context) → IsSound t → (lines_at t x).initial < length (initials_of t.lines)
initial_place-below t x sound = let always = lines_that_hold_are_there-initial t x sound in rw always.1 always.2

length-all_weights : (t : Tree) (k : ℕ) → length (all_weights t k) ≡ length (rates_of t.lines)
length-all_weights t k = length-map (rates_of t.lines) (weights_of k (measure_of t.lines))

-- the rate of a context is there
pub rate-below : (t : Tree) (tables : TableParts) (x : Context) → IsTablesOf t tables
    → (lines_at t x).rate < length tables.weights
rate-below t tables x is =
    rw (ap (λ (p : TableParts). length p.weights) is.parts ∙ length-all_weights t tables.constant)
    (rate_place-below t x is.sound)

-- with the weights of the one that holds first
pub rate-weights : (t : Tree) (tables : TableParts) (x : Context) (d : Weights) → IsTablesOf t tables
    → get_or tables.weights (lines_at t x).rate d ≡ rate_by t tables.constant x
rate-weights t tables x d is =
    get_or_default tables.weights (lines_at t x).rate d (record { per_pulse = 0; per_tick = 0 })
    (rate-below t tables x is)
    ∙ ap (λ (p : TableParts). get_or p.weights (lines_at t x).rate (record { per_pulse = 0; per_tick = 0 })) is.parts

-- all weights are fit
pub weights-fit : (tables : TableParts) → IsCompiled tables → All (AreFit tables.measure) tables.weights
weights-fit tables (t, is) =
    let parts = parts_of_tree t tables is in
    let k = tables.constant in
    let measure = measure_of t.lines in
    let all : All (AreFit (k * measure)) (all_weights t k) =
    All-map (AreFit (k * measure)) (weights_of k measure) (rates_of t.lines)
    (All-weaker IsSoundRate (λ r. AreFit (k * measure) (weights_of k measure r))
    (λ r. weights_of-fit k measure r is.constant parts.measure.1) (rates_of t.lines) (parts.choices Rate)) in
    subst (λ (p : TableParts). All (AreFit p.measure) p.weights) (sym is.parts) all

-- a supplement is at the place before its number
pub supplement-there : (t : Tree) (tables : TableParts) (number : ℕ) (d : Option Supplement) → IsTablesOf t tables
    → IsFromTo 1 16 number → get_or tables.supplements (number - 1) d ≡ supplement_of t.lines number
supplement-there t tables number d is range =
    ap (λ (p : TableParts). get_or p.supplements (number - 1) d) is.parts
    ∙ (get_or-map-range_with_len (λ (place : ℕ). supplement_of t.lines (place + 1)) 0 16 (number - 1) (number - 1) d
    (omega (arith, range.0, range.1)) (omega arith)
    ∙ ap (supplement_of t.lines) (omega (arith, range.0)))

-- and no other number has one
pub supplement-none : (t : Tree) (tables : TableParts) (number : ℕ) → IsTablesOf t tables → (IsFromTo 1 16 number → ⊥)
    → None ≡ supplement_of t.lines number
supplement-none t tables number is out =
    sym (supplements_are_numbered_to_16 t number is.writable out)

-- a day is a holiday exactly if its date is in a holiday line
pub holiday-dates : (t : Tree) (tables : TableParts) (day : ℤ) (year month date : ℕ) → IsTablesOf t tables
    → IsDateOf day year month date → has_day tables.cuts.holidays day ≡ is_holiday t.lines year month date
holiday-dates t tables day year month date is of =
    ap (λ (p : TableParts). has_day p.cuts.holidays day) is.parts
    ∙ holidays_are_dates-dates t tables.constant day year month date is.writable is.sound of

some_day : (days : List ℕ) (day : ℤ) → has_day days day ≡ true → ltb 0 (length days) ≡ true
some_day [] day is = cc
some_day (d ∷ ds) day is = lt-ltb 0 (length (d ∷ ds)) (omega arith)

-- a day is a holiday only if there is one
pub holiday-some : (tables : TableParts) (day : ℤ) → has_day tables.cuts.holidays day ≡ true
    → has_days tables.cuts ≡ true
holiday-some tables day holiday = some_day tables.cuts.holidays day holiday

-- what is looked up is what the lines that hold first say
pub has_weights : (t : Tree) (k : ℕ) (x : Context) → IsSound t → HasWeightsOf t k x (rate_by t k x)
has_weights t k x sound =
    let always = lines_that_hold_are_there-rate t x sound in
    let none : RateNumbers = record { a = 0; b = 0; c = 0; e = 0 } in
    record {
      place = always.0;
      rate = get_or (rates_of t.lines) always.0 none;
      first = always.1;
      there = slice_get-get_or (rates_of t.lines) always.0 none always.2;
      weights =
          rw always.1 (get_or-map (weights_of k (measure_of t.lines)) (rates_of t.lines) always.0 none _ always.2);
    }
