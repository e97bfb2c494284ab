-- Each choice of a tariff's lines stands at its line, at its place among the lines of its kind, and none is left out.
use Rattle.std.{specs.List.{cons_option, range_with_len, slice_get}, proofs.lemmas.List.Elements.{All-cons}}
use Rattle.std.{specs.Option.{is_some, option_map, option_map_or}, proofs.lemmas.List.Sums.{sum_by-append, sum_by-cons}}
use Rattle.std.proofs.Common.{[], ℕ, ◌++◌, ◌+◌, ◌∙◌, ◌∷◌, ◌≡◌, All, Bool, List, None, Option, Some, add-zero, ap}
use Rattle.std.proofs.Common.{append_assoc, arith, cond, false, filter, length, map, refl, subst, suc, sym, true}
use Rattle.tariff_check.specs.ChoiceLines.{choice_lines, choices_behind, is_same_kind, may_have_condition, place_behind}
use Rattle.tariff_check.specs.{ChoiceLines.{places_of}, Common.{rate}, FoundLines.{StandsAtItsLine, lines_of_kind}}
use Rattle.tariff_check.specs.Common.{ChoiceKind, ChoiceLine, Entry, Initial, Line, Minimum, Rate, initial, minimum}
use Rattle.tariff_check.{specs.Kinds.{is_of, kind_of, part_of}, proofs.KindLaws.{part_is}}

-- an entry is of the kind that it is told to be
kind_is : (x : Entry) (kind : ChoiceKind) → kind_of x ≡ Some kind → is_of kind x ≡ true
kind_is (rate a b c e when) kind h = told cc
  where
    told : kind_of (rate a b c e when) ≡ Some kind → is_of kind (rate a b c e when) ≡ true
    told h = cc
kind_is (initial amount covers when) kind h = cc
kind_is (minimum amount when) kind h = cc
kind_is x kind h = absurd cc

-- behind the lines before it, a line of a kind stands at the place that counts those of the kind among them
line_there : (kind : ChoiceKind) (before : List Line) (l : Line) (ls : List Line) → is_of kind l.entry ≡ true
    → slice_get (lines_of_kind kind (before ++ l ∷ ls)) (place_behind kind before) ≡ Some l
line_there kind [] l ls is = let told = part_is kind l.entry ∙ is in rw told refl
line_there kind (b ∷ bs) l ls is =
    rw (sum_by-cons (λ (m : Line). cond (is_of kind m.entry) 1 0) b bs, ← part_is kind b.entry)
    (by (is_some (part_of kind b.entry)) (line_there kind bs l ls is))
  where
    by : (t : Bool) → slice_get (lines_of_kind kind (bs ++ l ∷ ls)) (place_behind kind bs) ≡ Some l
        → slice_get (cond t (b ∷ lines_of_kind kind (bs ++ l ∷ ls)) (lines_of_kind kind (bs ++ l ∷ ls)))
        (cond t 1 0 + place_behind kind bs) ≡ Some l
    by true h = let next : 1 + place_behind kind bs ≡ suc (place_behind kind bs) = omega arith in rw next h
    by false h = let same : 0 + place_behind kind bs ≡ place_behind kind bs = omega arith in rw same h

each_there : (before ls : List Line) → All (StandsAtItsLine (before ++ ls)) (choices_behind before ls)
each_there before [] = λ k d lt. absurd (omega (arith, lt))
each_there before (l ∷ ls) =
    by (kind_of l.entry) (λ kind is. ap (option_map (λ (m : Line). m.line)) (line_there kind before l ls
    (kind_is l.entry kind is))) refl (subst
    (λ (lines : List Line). All (StandsAtItsLine lines) (choices_behind (before ++ l ∷ []) ls))
    (append_assoc before (l ∷ []) ls) (each_there (before ++ l ∷ []) ls))
  where
    lines : List Line
    lines = before ++ l ∷ ls

    choice : ChoiceKind → ChoiceLine
    choice kind = record { kind = kind; place_in_kind = place_behind kind before; line = l.line }

    by : (o : Option ChoiceKind) → ((kind : ChoiceKind) → kind_of l.entry ≡ Some kind
        → StandsAtItsLine lines (choice kind)) → kind_of l.entry ≡ o
        → All (StandsAtItsLine lines) (choices_behind (before ++ l ∷ []) ls)
        → All (StandsAtItsLine lines) (cons_option (option_map choice o) (choices_behind (before ++ l ∷ []) ls))
    by None there is later = later
    by (Some kind) there is later =
        All-cons (StandsAtItsLine lines) (choice kind) (choices_behind (before ++ l ∷ []) ls) (there kind is) later

pub choices_there : (lines : List Line) → All (StandsAtItsLine lines) (choice_lines lines)
choices_there lines = each_there [] lines

-- ---- none is left out

-- an entry is of a kind exactly if its kind is this one
same_kind : (x : Entry) (kind : ChoiceKind) → is_of kind x ≡ option_map_or (is_same_kind kind) (kind_of x) false
same_kind (rate a b c e when) Rate = refl
same_kind (rate a b c e when) Initial = refl
same_kind (rate a b c e when) Minimum = refl
same_kind (initial amount covers when) Rate = refl
same_kind (initial amount covers when) Initial = refl
same_kind (initial amount covers when) Minimum = refl
same_kind (minimum amount when) Rate = refl
same_kind (minimum amount when) Initial = refl
same_kind (minimum amount when) Minimum = refl
same_kind x Rate = refl
same_kind x Initial = refl
same_kind x Minimum = refl

same_is : (kind other : ChoiceKind) → is_same_kind kind other ≡ true → kind ≡ other
same_is Rate Rate h = refl
same_is Rate Initial h = absurd cc
same_is Rate Minimum h = absurd cc
same_is Initial Rate h = absurd cc
same_is Initial Initial h = refl
same_is Initial Minimum h = absurd cc
same_is Minimum Rate h = absurd cc
same_is Minimum Initial h = absurd cc
same_is Minimum Minimum h = refl

-- the choices that lines give behind others have the places that follow on those of the others, one for each line of
-- the kind
places_behind : (kind : ChoiceKind) (before ls : List Line) → places_of kind (choices_behind before ls)
    ≡ range_with_len (place_behind kind before) (length (lines_of_kind kind ls))
places_behind kind before [] = refl
places_behind kind before (l ∷ ls) =
    let one : place_behind kind (l ∷ []) ≡ cond (is_of kind l.entry) 1 0 =
    sum_by-cons (λ (m : Line). cond (is_of kind m.entry) 1 0) l [] ∙ add-zero _ in
    let next : place_behind kind (before ++ l ∷ []) ≡ place_behind kind before + cond (is_of kind l.entry) 1 0 =
    sum_by-append (λ (m : Line). cond (is_of kind m.entry) 1 0) before (l ∷ [])
    ∙ ap (λ (n : ℕ). place_behind kind before + n) one in
    rw (part_is kind l.entry) (by (kind_of l.entry) (is_of kind l.entry) (same_kind l.entry kind)
    (subst (λ (n : ℕ). places_of kind (choices_behind (before ++ l ∷ []) ls)
    ≡ range_with_len n (length (lines_of_kind kind ls))) next (places_behind kind (before ++ l ∷ []) ls)))
  where
    all : List ChoiceLine
    all = choices_behind (before ++ l ∷ []) ls

    choice : ChoiceKind → ChoiceLine
    choice own = record { kind = own; place_in_kind = place_behind own before; line = l.line }

    front : (own : ChoiceKind) (count : ℕ) → is_same_kind kind own ≡ true
        → places_of kind all ≡ range_with_len (place_behind kind before + 1) count
        → places_of kind (choice own ∷ all)
        ≡ place_behind kind before ∷ range_with_len (place_behind kind before + 1) count
    front own count same rest = rw (same, rest, same_is kind own same) refl

    by : (o : Option ChoiceKind) (told : Bool) → told ≡ option_map_or (is_same_kind kind) o false
        → places_of kind all
        ≡ range_with_len (place_behind kind before + cond told 1 0) (length (lines_of_kind kind ls))
        → places_of kind (cons_option (option_map choice o) all) ≡ range_with_len (place_behind kind before)
        (length (cond told (l ∷ lines_of_kind kind ls) (lines_of_kind kind ls)))
    by None true is rest = absurd cc
    by None false is rest = rw (← add-zero (place_behind kind before)) rest
    by (Some own) true is rest = front own (length (lines_of_kind kind ls)) (sym is) rest
    by (Some own) false is rest = rw (← is, ← add-zero (place_behind kind before)) rest

pub each_has_its_place : (kind : ChoiceKind) (lines : List Line)
    → places_of kind (choice_lines lines) ≡ range_with_len 0 (length (lines_of_kind kind lines))
each_has_its_place kind lines = places_behind kind [] lines

-- and all choices stand in the order of the lines
lines_behind : (before ls : List Line) → map (λ (c : ChoiceLine). c.line) (choices_behind before ls)
    ≡ map (λ (m : Line). m.line) (filter (λ (m : Line). may_have_condition m.entry) ls)
lines_behind before [] = refl
lines_behind before (l ∷ ls) = by (kind_of l.entry) (lines_behind (before ++ l ∷ []) ls)
  where
    later : List Line
    later = filter (λ (m : Line). may_have_condition m.entry) ls

    by : (o : Option ChoiceKind) → map (λ (c : ChoiceLine). c.line) (choices_behind (before ++ l ∷ []) ls)
        ≡ map (λ (m : Line). m.line) later
        → map (λ (c : ChoiceLine). c.line) (cons_option (option_map (λ (kind : ChoiceKind). record {
          kind = kind;
          place_in_kind = place_behind kind before;
          line = l.line;
        }) o) (choices_behind (before ++ l ∷ []) ls))
        ≡ map (λ (m : Line). m.line) (cond (is_some o) (l ∷ later) later)
    by None h = h
    by (Some kind) h = ap (λ (ns : List ℕ). l.line ∷ ns) h

pub all_in_order : (lines : List Line) → map (λ (c : ChoiceLine). c.line) (choice_lines lines)
    ≡ map (λ (l : Line). l.line) (filter (λ (l : Line). may_have_condition l.entry) lines)
all_in_order lines = lines_behind [] lines
