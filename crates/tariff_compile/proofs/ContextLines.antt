-- What is looked up for a context: the lines that its cell has are those that the tree names.
use Rattle.std.proofs.Common.{ℕ, ◌<◌, ◌==◌, ◌∙◌, ◌≡◌, ◌≤◌, Bool, Option, ap, arith, false, get_or, if◌then◌else◌, min}
use Rattle.std.proofs.{Common.{refl, sym, true}, Math.Path.{fun_ext}, lemmas.List.FromFn.{get_or-map-range_with_len}}
use Rattle.{std.proofs.Math.Nat.{min-eq_right}, taxi_units.specs.Time.{longest_trip}}
use Rattle.{tariff_tree.specs.Meaning.{choice_place}, tariff_check.specs.declared.choice.ChoiceKind.{ChoiceKind}}
use Rattle.tariff_check.specs.{Kinds.{is_asked_amid, part_of}, Parts.{has_holidays}}
use Rattle.tariff_calendar.specs.{Lists.{AreOrdered}, Range.{IsSameCell}}
use Rattle.tariff_calendar.proofs.Laws.{counts_are_places-few, cuts_decide_conditions-first, lists_are_ordered-ordered}
use Rattle.tariff_compile.specs.Cells.{IsBelow, bands_at, beginning, cell_count, context_in, sizes_of}
use Rattle.tariff_compile.specs.Common.{CellLines, Context, CutLists, IsInRange, IsInRangeOf, IsSound, IsWritable, Tree}
use Rattle.tariff_compile.specs.Common.{at_hiring, count_at_most, lists_of, positions_of, zones_of}
use Rattle.tariff_compile.specs.Tables.{all_cells, cell_of, context_of_cell, lines_at, lines_with, place_at, sizes_in}
use Rattle.tariff_compile.proofs.Beginnings.{beginning-le, count_at_most-beginning}
use Rattle.tariff_compile.proofs.CellNumbers.{bands_of-cell_number, cell_number_below}

-- a holiday is told from another day if there is a holiday
holiday_below : (holidays holiday : Bool) → (holiday ≡ true → holidays ≡ true)
    → (if holiday then 1 else 0) < (if holidays then 2 else 1)
holiday_below true true h = omega arith
holiday_below true false h = omega arith
holiday_below false true h = absurd (cc (h refl))
holiday_below false false h = omega arith

-- the bands of a context in range are ones that the dimensions have
pub bands_at-below : (k positions zones : ℕ) (holidays : Bool) (lists : CutLists) (x : Context) → IsInRange k positions
    zones holidays x → IsBelow (sizes_of positions zones (if holidays then 2 else 1) lists) (bands_at lists x)
bands_at-below k positions zones holidays lists x x_in = record {
  position = omega (arith, x_in.position.0, x_in.position.1);
  zone = omega (arith, x_in.zone.0, x_in.zone.1);
  weekday = omega (arith, x_in.weekday.0, x_in.weekday.1);
  holiday = holiday_below holidays x.holiday x_in.holiday;
  month_day = omega (arith, counts_are_places-few x.month_day lists.month_days);
  minute = omega (arith, counts_are_places-few x.minute lists.minutes);
  distance = omega (arith, counts_are_places-few x.pulses lists.distances);
  time = omega (arith, counts_are_places-few x.ticks lists.times);
}

bands_of_tree : (t : Tree) (k : ℕ) (x : Context) → IsInRangeOf t k x
    → IsBelow (sizes_in t k) (bands_at (lists_of t k) x)
bands_of_tree t k x x_in =
    bands_at-below k (positions_of t.lines) (zones_of t.lines) (has_holidays t.lines) (lists_of t k) x x_in

holiday_back : (holiday : Bool) → ((if holiday then 1 else 0) == 1) ≡ holiday
holiday_back true = refl
holiday_back false = refl

-- the context of a context's cell
abbrev beginning_of : Tree → (k : ℕ) → Context → Context
beginning_of t k x = context_in k (lists_of t k) (bands_at (lists_of t k) x)

ticks_kept : (lists : CutLists) (x : Context) → AreOrdered lists → x.ticks ≤ longest_trip
    → min longest_trip (beginning lists.times (count_at_most x.ticks lists.times))
    ≡ beginning lists.times (count_at_most x.ticks lists.times)
ticks_kept lists x ordered short =
    let le = beginning-le x.ticks lists.times ordered.times.not_falling in
    min-eq_right (omega arith)

beginning_in_range : (t : Tree) (k : ℕ) (x : Context) → AreOrdered (lists_of t k) → IsInRangeOf t k x
    → IsInRangeOf t k (beginning_of t k x)
beginning_in_range t k x ordered x_in =
    let lists = lists_of t k in
    record {
      constant = refl;
      position = (omega arith, omega (arith, x_in.position.0, x_in.position.1));
      zone = (omega arith, omega (arith, x_in.zone.0, x_in.zone.1));
      weekday = (omega arith, omega (arith, x_in.weekday.0, x_in.weekday.1));
      month_day =
          omega (arith, x_in.month_day, beginning-le x.month_day lists.month_days ordered.month_days.not_falling);
      minute = omega (arith, x_in.minute, beginning-le x.minute lists.minutes ordered.minutes.not_falling);
      holiday = λ is. x_in.holiday (sym (holiday_back x.holiday) ∙ is);
      pulses = omega (arith, x_in.pulses, beginning-le x.pulses lists.distances ordered.distances.not_falling);
      ticks = rw (ticks_kept lists x ordered x_in.ticks)
          (omega (arith, x_in.ticks, beginning-le x.ticks lists.times ordered.times.not_falling));
    }

beginning_same_cell : (t : Tree) (k : ℕ) (x : Context) → AreOrdered (lists_of t k) → IsInRangeOf t k x
    → IsSameCell (lists_of t k) (beginning_of t k x) x
beginning_same_cell t k x ordered x_in =
    let lists = lists_of t k in
    record {
      position = omega (arith, x_in.position.0);
      zone = omega (arith, x_in.zone.0);
      weekday = omega (arith, x_in.weekday.0);
      holiday = holiday_back x.holiday;
      month_day = count_at_most-beginning x.month_day lists.month_days ordered.month_days.not_falling;
      minute = count_at_most-beginning x.minute lists.minutes ordered.minutes.not_falling;
      distance = count_at_most-beginning x.pulses lists.distances ordered.distances.not_falling;
      time = rw (ticks_kept lists x ordered x_in.ticks)
          (count_at_most-beginning x.ticks lists.times ordered.times.not_falling);
    }

-- what is the same in two contexts and at their hirings is the same where it is asked
asked_alike : (place : Context → Option ℕ) (amid : Bool) (x y : Context) → place x ≡ place y
    → place (at_hiring x) ≡ place (at_hiring y)
    → place (if amid then x else at_hiring x) ≡ place (if amid then y else at_hiring y)
asked_alike place true x y here hiring = here
asked_alike place false x y here hiring = hiring

-- the same line of a kind holds first in a context and at the beginning of its cell
beginning_line : (t : Tree) (k : ℕ) (x : Context) → IsWritable t → IsSound t → IsInRangeOf t k x → (kind : ChoiceKind)
    → place_at kind t (beginning_of t k x) ≡ place_at kind t x
beginning_line t k x writable sound x_in kind =
    let ordered = lists_are_ordered-ordered t k writable sound in
    let y_in = beginning_in_range t k x ordered x_in in
    let same = beginning_same_cell t k x ordered x_in in
    let first = cuts_decide_conditions-first kind t k (beginning_of t k x) x writable sound y_in x_in same in
    asked_alike (choice_place (part_of kind) t) (is_asked_amid kind) (beginning_of t k x) x first.0 first.1

-- and so the same lines
beginning_lines : (t : Tree) (k : ℕ) (x : Context) → IsWritable t → IsSound t → IsInRangeOf t k x
    → lines_at t (beginning_of t k x) ≡ lines_at t x
beginning_lines t k x writable sound x_in =
    let same : (λ (kind : ChoiceKind). place_at kind t (beginning_of t k x))
    ≡ (λ (kind : ChoiceKind). place_at kind t x) = fun_ext (beginning_line t k x writable sound x_in) in
    ap lines_with same

-- the cell of a context names the lines that the tree names
pub cell_has_lines : (t : Tree) (k : ℕ) (x : Context) (d : CellLines) → IsWritable t → IsSound t → IsInRangeOf t k x
    → get_or (all_cells t k) (cell_of t k x) d ≡ lines_at t x
cell_has_lines t k x d writable sound x_in =
    let below = bands_of_tree t k x x_in in
    let cell = cell_of t k x in
    get_or-map-range_with_len (λ cell. lines_at t (context_of_cell t k cell)) 0 (cell_count (sizes_in t k)) cell cell d
    (cell_number_below (sizes_in t k) (bands_at (lists_of t k) x) below) (omega arith)
    ∙ (ap (λ b. lines_at t (context_in k (lists_of t k) b))
    (bands_of-cell_number (sizes_in t k) (bands_at (lists_of t k) x) below)
    ∙ beginning_lines t k x writable sound x_in)

-- there is such a cell
pub cell_of-below : (t : Tree) (k : ℕ) (x : Context) → IsInRangeOf t k x → cell_of t k x < cell_count (sizes_in t k)
cell_of-below t k x x_in = cell_number_below (sizes_in t k) (bands_at (lists_of t k) x) (bands_of_tree t k x x_in)
