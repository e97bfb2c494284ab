-- Two contexts of one cell: the conditions of the tariff hold in both or in neither, and the same lines hold first.
use Rattle.std.specs.{List.{All, Contains, cons_option, flat_map, position_from}, Option.{option_map}}
use Rattle.std.proofs.Common.{[], ℕ, ◌+◌, ◌∷◌, ◌≡◌, List, None, Option, Some, get_or, map, refl, subst}
use Rattle.std.proofs.lemmas.List.Elements.{All-cons, All-contains, All-from_get_or, All-head, All-nil, All-tail}
use Rattle.{std.proofs.lemmas.List.Elements.{Contains-get_or}, tariff_tree.specs.Choices.{choices, conditions_of}}
use Rattle.{tariff_tree.specs.{Meaning.{holds_if}, Tree.{Entry, when_part}}, tariff_check.specs.Cuts.{all_cuts}}
use Rattle.tariff_check.{specs.Lines.{atoms_if, atoms_in}, proofs.Laws.{sound_tariffs_have_sound_parts-parts}}
use Rattle.tariff_calendar.specs.Common.{Condition, Context, Dimension, Distance, HasSoundParts, IsGoodAtom, IsSound}
use Rattle.tariff_calendar.specs.Common.{IsWritable, Line, Minute, MonthDay, Time, Tree, at_hiring, atom_cuts}
use Rattle.tariff_calendar.{specs.Common.{choice_place, cuts_of, holds}, proofs.Comparisons.{holds_alike}}
use Rattle.tariff_calendar.{specs.Lists.{CutLists, count_at_most, lists_of, pulses_for}, proofs.Counts.{decides_at}}
use Rattle.tariff_calendar.{specs.Range.{IsInRangeOf, IsSameCell}, proofs.Insertions.{All-from_with_each}}
use Rattle.tariff_calendar.proofs.Comparisons.{All-parts, CompareAlike, HaveAlike, IsAlike, IsAlikeInPulses}

-- what holds of all that is made of the elements of a list holds of all that is made of each
All-from_flat_map : {X : Type 0} (P : ℕ → Type 0) (f : X → List ℕ) (xs : List X) → All P (flat_map f xs)
    → All (λ x. All P (f x)) xs
All-from_flat_map P f [] all = All-nil (λ x. All P (f x))
All-from_flat_map P f (x ∷ xs) all =
    let parts = All-parts P (f x) (flat_map f xs) all in
    All-cons (λ x. All P (f x)) x xs parts.0 (All-from_flat_map P f xs parts.1)

All-from_map : (P : ℕ → Type 0) (f : ℕ → ℕ) (xs : List ℕ) → All P (map f xs) → All (λ x. P (f x)) xs
All-from_map P f [] all = All-nil (λ x. P (f x))
All-from_map P f (x ∷ xs) all = All-cons (λ x. P (f x)) x xs (All-head P (f x) (map f xs) all)
    (All-from_map P f xs (All-tail P (f x) (map f xs) all))

-- if as many numbers are at most one value as at another, all of them compare alike
all_alike : (v w : ℕ) (xs : List ℕ) → count_at_most v xs ≡ count_at_most w xs → All (IsAlike v w) xs
all_alike v w xs same = All-from_get_or (IsAlike v w) xs 0 (λ i within. decides_at v w xs i same within)

-- what holds of all cuts of a dimension holds of those of each line
cuts_of_line : (P : ℕ → Type 0) (dimension : Dimension) (lines : List Line) (l : Line) → All P (cuts_of dimension lines)
    → Contains lines l → All P (flat_map (atom_cuts dimension) (atoms_in l.entry))
cuts_of_line P dimension lines l all within =
    let cuts = (All-from_with_each P [] (all_cuts dimension lines) all).1 in
    All-contains (λ (l : Line). All P (flat_map (atom_cuts dimension) (atoms_in l.entry))) lines l
    (All-from_flat_map P (λ (l : Line). flat_map (atom_cuts dimension) (atoms_in l.entry)) lines cuts) within

-- two contexts of one cell compare alike with the cuts of each line
same_cell_compares : (t : Tree) (k : ℕ) (x y : Context) (l : Line) → IsSameCell (lists_of t k) x y → Contains t.lines l
    → CompareAlike k x y (atoms_in l.entry)
same_cell_compares t k x y l same within = record {
  month_day = cuts_of_line (IsAlike x.month_day y.month_day) MonthDay t.lines l
      (all_alike x.month_day y.month_day (cuts_of MonthDay t.lines) same.month_day) within;
  minute = cuts_of_line (IsAlike x.minute y.minute) Minute t.lines l
      (all_alike x.minute y.minute (cuts_of Minute t.lines) same.minute) within;
  distance = cuts_of_line (IsAlikeInPulses k x.pulses y.pulses) Distance t.lines l
      (All-from_map (IsAlike x.pulses y.pulses) (pulses_for k) (cuts_of Distance t.lines)
      (all_alike x.pulses y.pulses (map (pulses_for k) (cuts_of Distance t.lines)) same.distance)) within;
  time = cuts_of_line (IsAlike x.ticks y.ticks) Time t.lines l
      (all_alike x.ticks y.ticks (cuts_of Time t.lines) same.time) within;
}

same_cell_has : (t : Tree) (k : ℕ) (x y : Context) → IsInRangeOf t k x → IsInRangeOf t k y
    → IsSameCell (lists_of t k) x y → HaveAlike k x y
same_cell_has t k x y x_in y_in same = record {
  constant = (x_in.constant, y_in.constant);
  position = same.position;
  zone = same.zone;
  weekday = same.weekday;
  holiday = same.holiday;
  month_day = (x_in.month_day, y_in.month_day);
}

line_holds : (t : Tree) (k : ℕ) (x y : Context) → HasSoundParts t → HaveAlike k x y → IsSameCell (lists_of t k) x y
    → (l : Line) (c : Condition) → Contains t.lines l → when_part l.entry ≡ Some c → holds c x ≡ holds c y
line_holds t k x y parts have same l c within has =
    let good = All-contains (λ (l : Line). All IsGoodAtom (atoms_in l.entry)) t.lines l parts.atoms within in
    holds_alike c k x y (subst (λ when. All IsGoodAtom (atoms_if when)) has good) have
    (subst (λ when. CompareAlike k x y (atoms_if when)) has (same_cell_compares t k x y l same within))

-- each condition of a tariff holds in both or in neither
pub same_cell_holds : (t : Tree) (k : ℕ) (x y : Context) → IsWritable t → IsSound t → IsInRangeOf t k x
    → IsInRangeOf t k y → IsSameCell (lists_of t k) x y → (l : Line) (c : Condition) → Contains t.lines l
    → when_part l.entry ≡ Some c → holds c x ≡ holds c y
same_cell_holds t k x y writable sound x_in y_in same = line_holds t k x y
    (sound_tariffs_have_sound_parts-parts t writable sound) (same_cell_has t k x y x_in y_in same) same

-- a line's condition that may not be there holds in both or in neither
abbrev IsWhenAlike : (x y : Context) → Option Condition → Type 0
IsWhenAlike x y when = holds_if x when ≡ holds_if y when

when_alike : (x y : Context) (when : Option Condition) → ((c : Condition) → when ≡ Some c → holds c x ≡ holds c y)
    → IsWhenAlike x y when
when_alike x y None alike = refl
when_alike x y (Some c) alike = alike c refl

-- what holds of each line's condition holds of those of the choices of a kind
All-conditions : {V : Type 0} (P : Option Condition → Type 0) (part : Entry → Option V) (lines : List Line)
    → All (λ (l : Line). P (when_part l.entry)) lines → All P (conditions_of (choices part lines))
All-conditions P part [] all = All-nil P
All-conditions {V} P part (l ∷ ls) all =
    let Q = λ (l : Line). P (when_part l.entry) in
    one_more (part l.entry) (All-head Q l ls all) (All-conditions P part ls (All-tail Q l ls all))
  where
    one_more : (o : Option V) → P (when_part l.entry) → All P (conditions_of (choices part ls))
        → All P (conditions_of (cons_option
        (option_map (λ (v : V). record { value = v; when = when_part l.entry; line = l.line }) o) (choices part ls)))
    one_more None here rest = rest
    one_more (Some v) here rest = All-cons P (when_part l.entry) (conditions_of (choices part ls)) here rest

-- if conditions hold in both or in neither, the first that holds is the same
first_alike : (x y : Context) (place : ℕ) (conditions : List (Option Condition)) → All (IsWhenAlike x y) conditions
    → position_from (holds_if x) place conditions ≡ position_from (holds_if y) place conditions
first_alike x y place [] all = refl
first_alike x y place (when ∷ more) all =
    rw (
      All-head (IsWhenAlike x y) when more all,
      first_alike x y (place + 1) more (All-tail (IsWhenAlike x y) when more all),
    ) refl

-- the first choice of a kind that holds is the same in both
choices_alike : {V : Type 0} (part : Entry → Option V) (t : Tree) (k : ℕ) (x y : Context) → HasSoundParts t
    → HaveAlike k x y → IsSameCell (lists_of t k) x y → choice_place part t x ≡ choice_place part t y
choices_alike part t k x y parts have same =
    first_alike x y 0 (conditions_of (choices part t.lines)) (All-conditions (IsWhenAlike x y) part t.lines
    (λ place d within.
    let l = get_or t.lines place d in
    when_alike x y (when_part l.entry)
    (λ c has. line_holds t k x y parts have same l c (Contains-get_or t.lines place d within) has)))

-- at the hiring they are in one cell too
hiring_has : (k : ℕ) (x y : Context) → HaveAlike k x y → HaveAlike k (at_hiring x) (at_hiring y)
hiring_has k x y have = record {
  constant = have.constant;
  position = have.position;
  zone = have.zone;
  weekday = have.weekday;
  holiday = have.holiday;
  month_day = have.month_day;
}

hiring_same : (lists : CutLists) (x y : Context) → IsSameCell lists x y → IsSameCell lists (at_hiring x) (at_hiring y)
hiring_same lists x y same = record {
  position = same.position;
  zone = same.zone;
  weekday = same.weekday;
  holiday = same.holiday;
  month_day = same.month_day;
  minute = same.minute;
  distance = refl;
  time = refl;
}

-- so the same line of each kind holds first
pub same_cell_first : {V : Type 0} (part : Entry → Option V) (t : Tree) (k : ℕ) (x y : Context) → IsWritable t
    → IsSound t → IsInRangeOf t k x → IsInRangeOf t k y → IsSameCell (lists_of t k) x y
    → (choice_place part t x ≡ choice_place part t y)
    × (choice_place part t (at_hiring x) ≡ choice_place part t (at_hiring y))
same_cell_first part t k x y writable sound x_in y_in same =
    let parts = sound_tariffs_have_sound_parts-parts t writable sound in
    let have = same_cell_has t k x y x_in y_in same in (
      choices_alike part t k x y parts have same,
      choices_alike part t k (at_hiring x) (at_hiring y) parts (hiring_has k x y have)
          (hiring_same (lists_of t k) x y same),
    )
