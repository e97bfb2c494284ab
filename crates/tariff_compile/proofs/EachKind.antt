-- What is so of each kind of line in tables: a context has the line that holds first, its numbers are in their ranges,
-- and its rows are short.
use Rattle.{std.specs.List.{AllByRecursion, slice_get}, taxi_units.specs.Money.{largest_amount}}
use Rattle.std.proofs.Common.{[], ℕ, ◌+◌, ◌<◌, ◌^◌, ◌∙◌, ◌∷◌, ◌≡◌, ◌≤◌, All, Bool, List, None, Option, Some, ap, arith}
use Rattle.std.proofs.Common.{codes, decimal, false, get_or, length, refl, subst, suc, sym, true, zero}
use Rattle.std.proofs.lemmas.{List.Elements.{All-get_or, All-head, All-tail}, Option.{slice_get-get_or}}
use Rattle.std.proofs.lemmas.List.FromFn.{get_or-map-range_with_len, length-map-range_with_len}
use Rattle.{tariff_tree.specs.Meaning.{minimum_place}, tariff_check.proofs.Laws.{lines_that_hold_are_there-there}}
use Rattle.tariff_check.specs.{Kinds.{IsSoundInitial}, declared.choice.ChoiceKind.TheVariants.{Initial, Minimum}}
use Rattle.{tariff_check.specs.Parts.{minimums_of}, tariff_compile.proofs.ShortRows.{joined_short, row_in-short}}
use Rattle.tariff_check.proofs.Laws.{lines_that_hold_are_there-initial, lines_that_hold_are_there-rate}
use Rattle.tariff_compile.specs.{Cells.{cell_count}, Rows.{minimum_row, rate_row, row_count, row_text, sections}}
use Rattle.tariff_compile.specs.Common.{CellLines, Context, InitialNumbers, IsInRangeOf, IsSound, IsWritable, Rate}
use Rattle.tariff_compile.specs.Common.{Tree, Weights, at_hiring, initial_by, place_number}
use Rattle.tariff_compile.specs.Rows.{cell_row, cell_section, has_minimums, initial_row, measure_row, minimum_field}
use Rattle.tariff_compile.specs.Tables.{AreFit, HasLinesOf, IsCompiled, IsInRangeFor, IsTablesOf, TableParts, all_cells}
use Rattle.tariff_compile.specs.Tables.{cell_of, context_of_cell, fees_in, fees_named, lines_at, no_lines, sizes_in}
use Rattle.tariff_compile.proofs.Compiled.{cell_count-most, initial_place-below, length-all_cells, lines_in_is}
use Rattle.tariff_compile.proofs.Compiled.{measure_range, parts_of_tree, rate_place-below, weights-fit}
use Rattle.tariff_compile.proofs.ContextLines.{cell_has_lines, cell_of-below}
use Rattle.tariff_compile.proofs.ShortRows.{HasShortRows, IsShort, blank_money, blank_number, decimal_short, joined}

-- ---- lines and fees

has_lines : (t : Tree) (x : Context) → IsSound t → HasLinesOf t x (lines_at t x)
has_lines t x sound =
    let rate = lines_that_hold_are_there-rate t x sound in
    let initial = lines_that_hold_are_there-initial t x sound in
    record { rate = rw rate.1; initial = rw initial.1; minimum = refl }

-- the law of tables
pub cell_names_lines : (t : Tree) (k : ℕ) (x : Context) → IsWritable t → IsSound t → IsInRangeOf t k x
    → (lines : CellLines) × (slice_get (all_cells t k) (cell_of t k x) ≡ Some lines) × HasLinesOf t x lines
cell_names_lines t k x writable sound x_in = (
  lines_at t x,
  slice_get-get_or (all_cells t k) (cell_of t k x) (lines_at t x)
      (rw (length-map-range_with_len (λ (cell : ℕ). lines_at t (context_of_cell t k cell)) 0 (cell_count
      (sizes_in t k)))
      (cell_of-below t k x x_in))
      ∙ ap Some (cell_has_lines t k x (lines_at t x) writable sound x_in),
  has_lines t x sound,
)

-- the initial hire fee of a context is there
pub initial-below : (t : Tree) (tables : TableParts) (x : Context) → IsTablesOf t tables
    → (lines_at t x).initial < length tables.initials
initial-below t tables x is =
    rw (ap (λ (p : TableParts). length p.initials) is.parts) (initial_place-below t x is.sound)

-- all initial hire fees are sound
pub fees-fit : (tables : TableParts) → IsCompiled tables → All IsSoundInitial tables.initials
fees-fit tables (t, is) =
    subst (λ (p : TableParts). All IsSoundInitial p.initials) (sym is.parts)
    ((parts_of_tree t tables is).choices Initial)

-- and so are all minimum fares
pub minimums-fit : (tables : TableParts) → IsCompiled tables → All (λ amount. amount ≤ largest_amount) tables.minimums
minimums-fit tables (t, is) =
    subst (λ (p : TableParts). All (λ amount. amount ≤ largest_amount) p.minimums) (sym is.parts)
    ((parts_of_tree t tables is).choices Minimum)

pub number_few : (minimums : List ℕ) (o : Option ℕ) → ((place : ℕ) → o ≡ Some place → place < length minimums)
    → place_number o ≤ length minimums
number_few minimums None there = omega arith
number_few minimums (Some place) there = omega (arith, there place refl)

-- the fees that the lines of a context name are those that are in force at its hiring
pub fees_of_lines : (t : Tree) (tables : TableParts) (x : Context) → IsTablesOf t tables
    → fees_named tables (lines_at t x) ≡ initial_by t x
fees_of_lines t tables x is = ap (λ (p : TableParts). fees_named p (lines_at t x)) is.parts

-- the fees that tables have for a context are those of the tree
pub fees_in_is : (t : Tree) (tables : TableParts) (x : Context) → IsTablesOf t tables → IsInRangeFor tables x
    → fees_in tables x ≡ initial_by t x
fees_in_is t tables x is x_in = ap (fees_named tables) (lines_in_is t tables x is x_in) ∙ fees_of_lines t tables x is

pub all_fit : (amounts : List ℕ) (n : ℕ) → All (λ amount. amount ≤ largest_amount) amounts
    → get_or amounts n 0 ≤ largest_amount
all_fit [] n all = omega arith
all_fit (m ∷ ms) zero all = All-head (λ amount. amount ≤ largest_amount) m ms all
all_fit (m ∷ ms) (suc n) all = all_fit ms n (All-tail (λ amount. amount ≤ largest_amount) m ms all)

-- ---- rows

measure_short : (measure : ℕ) → measure < 2 ^ 128 → IsShort (measure_row measure)
measure_short measure h =
    let behind = joined (decimal measure) (codes "\n") 39 1 (decimal_short measure h) (omega arith) in
    let whole = joined_short (codes "MEASURE ") _ 40 (omega arith) (omega arith) behind in
    record { some = whole.0; few = omega (arith, whole.1) }

rate_short : (number : ℕ) (w : Weights) → number < 2 ^ 128 → w.per_pulse < 2 ^ 128 → w.per_tick < 2 ^ 128
    → IsShort (rate_row number w)
rate_short number w n p t =
    let tick = blank_number w.per_tick (codes "\n") 1 t (omega arith) in
    let pulse = blank_number w.per_pulse _ 41 p tick in
    let behind = joined (decimal number) _ 39 81 (decimal_short number n) pulse in
    let whole = joined_short (codes "RATE ") _ 120 (omega arith) (omega arith) behind in
    record { some = whole.0; few = omega (arith, whole.1) }

initial_short : (decimals number : ℕ) (i : InitialNumbers) → decimals ≤ 3 → number < 2 ^ 128 → i.amount < 2 ^ 64
    → i.covers < 2 ^ 64 → IsShort (initial_row decimals number i)
initial_short decimals number i few n a v =
    let covers = blank_money decimals i.covers (codes "\n") 1 few v (omega arith) in
    let amount = blank_money decimals i.amount _ 62 few a covers in
    let behind = joined (decimal number) _ 39 123 (decimal_short number n) amount in
    let whole = joined_short (codes "INITIAL ") _ 162 (omega arith) (omega arith) behind in
    record { some = whole.0; few = omega (arith, whole.1) }

minimum_short : (decimals number amount : ℕ) → decimals ≤ 3 → number < 2 ^ 128 → amount < 2 ^ 64
    → IsShort (minimum_row decimals number amount)
minimum_short decimals number amount few n a =
    let behind = joined (decimal number) _ 39 62 (decimal_short number n)
    (blank_money decimals amount (codes "\n") 1 few a (omega arith)) in
    let whole = joined_short (codes "MINIMUM ") _ 101 (omega arith) (omega arith) behind in
    record { some = whole.0; few = omega (arith, whole.1) }

field_short : (minimums : Bool) (number : ℕ) → number < 2 ^ 64 → length (minimum_field minimums number) ≤ 41
field_short true number n = blank_number number (codes "\n") 1 (omega arith) (omega arith)
field_short false number n = omega arith

cell_short : (minimums : Bool) (cell : ℕ) (lines : CellLines) → cell < 2 ^ 128 → lines.rate < 2 ^ 64
    → lines.initial < 2 ^ 64 → lines.minimum < 2 ^ 64 → IsShort (cell_row minimums cell lines)
cell_short minimums cell lines n r i m =
    let initial = blank_number (lines.initial + 1) (minimum_field minimums lines.minimum) 41 (omega (arith, i))
    (field_short minimums lines.minimum m) in
    let rate = blank_number (lines.rate + 1) _ 81 (omega (arith, r)) initial in
    let behind = joined (decimal cell) _ 39 121 (decimal_short cell n) rate in
    let whole = joined_short (codes "CELL ") _ 160 (omega arith) (omega arith) behind in
    record { some = whole.0; few = omega (arith, whole.1) }

-- the lines of a cell are few
cell_few : (t : Tree) (tables : TableParts) (cell : ℕ) (d : CellLines) → IsTablesOf t tables
    → cell < length tables.cells
    → (cell < 64512) × ((get_or tables.cells cell d).rate < 64) × ((get_or tables.cells cell d).initial < 64)
    × ((get_or tables.cells cell d).minimum ≤ 64)
cell_few t tables cell d is h =
    let k = tables.constant in
    let parts = parts_of_tree t tables is in
    let same = ap (λ (p : TableParts). p.cells) is.parts in
    let within : cell < cell_count (sizes_in t k) =
    omega (arith, h, ap (λ (p : TableParts). length p.cells) is.parts, length-all_cells t k) in
    let found = ap (λ (cells : List CellLines). get_or cells cell d) same ∙ get_or-map-range_with_len
    (λ (c : ℕ). lines_at t (context_of_cell t k c)) 0 (cell_count (sizes_in t k)) cell cell d within (omega arith) in (
      omega (arith, within, cell_count-most t k is.writable is.sound),
      rw found (omega (arith, rate_place-below t (context_of_cell t k cell) is.sound, parts.choice_count Rate)),
      rw found (omega (arith, initial_place-below t (context_of_cell t k cell) is.sound, parts.choice_count Initial)),
      rw found (omega (
        arith,
        number_few (minimums_of t.lines) (minimum_place t (context_of_cell t k cell))
            (lines_that_hold_are_there-there Minimum t (at_hiring (context_of_cell t k cell))),
        parts.choice_count Minimum,
      )),
    )

rates_short : (tables : TableParts) → IsCompiled tables → (place : ℕ) → place < length tables.weights → place < 2 ^ 64
    → IsShort (rate_row (place + 1) (get_or tables.weights place (record { per_pulse = 0; per_tick = 0 })))
rates_short tables compiled place within wide =
    let fit = All-get_or (AreFit tables.measure) tables.weights place (record { per_pulse = 0; per_tick = 0 }) within
    (weights-fit tables compiled) in
    rate_short (place + 1) _ (omega (arith, wide)) (omega (arith, fit.per_pulse)) (omega (arith, fit.per_tick))

initials_short : (tables : TableParts) → IsCompiled tables → tables.decimals ≤ 3 → (place : ℕ)
    → place < length tables.initials → place < 2 ^ 64 → IsShort (initial_row tables.decimals (place + 1)
    (get_or tables.initials place (record { amount = 0; covers = 0 })))
initials_short tables compiled decimals place within wide =
    let fit = All-get_or IsSoundInitial tables.initials place (record { amount = 0; covers = 0 }) within
    (fees-fit tables compiled) in
    initial_short tables.decimals (place + 1) _ decimals (omega (arith, wide)) (omega (arith, fit.amount))
    (omega (arith, fit.covers))

minimums_short : (tables : TableParts) → IsCompiled tables → tables.decimals ≤ 3 → (place : ℕ) → place < 2 ^ 64
    → IsShort (minimum_row tables.decimals (place + 1) (get_or tables.minimums place 0))
minimums_short tables compiled decimals place wide =
    minimum_short tables.decimals (place + 1) _ decimals (omega (arith, wide))
    (omega (arith, all_fit tables.minimums place (minimums-fit tables compiled)))

cells_short : (tables : TableParts) → IsCompiled tables → HasShortRows (cell_section tables)
cells_short tables (t, is) place within wide =
    let few = cell_few t tables place no_lines is within in
    cell_short (has_minimums tables) place _ (omega (arith, few.0)) (omega (arith, few.1)) (omega (arith, few.2))
    (omega (arith, few.3))

sections_short : (tables : TableParts) → IsCompiled tables → AllByRecursion HasShortRows (sections tables)
sections_short tables (t, is) =
    let compiled : IsCompiled tables = (t, is) in
    let decimals : tables.decimals ≤ 3 =
    rw (ap (λ (p : TableParts). p.decimals) is.parts) (parts_of_tree t tables is).decimals in (
      λ place within wide. measure_short tables.measure (omega (arith, (measure_range tables compiled).1)),
      (
        rates_short tables compiled,
        (
          initials_short tables compiled decimals,
          (λ place within wide. minimums_short tables compiled decimals place wide, (cells_short tables compiled, tt)),
        ),
      ),
    )

pub row_short : (tables : TableParts) (row : ℕ) → IsCompiled tables → row < row_count tables → row < 2 ^ 64
    → IsShort (row_text tables row)
row_short tables row compiled h wide = row_in-short (sections tables) row (sections_short tables compiled) h wide
