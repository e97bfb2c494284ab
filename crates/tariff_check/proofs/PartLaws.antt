-- What holds of the lines of a tariff holds of its parts.
use Rattle.std.{specs.List.{cons_option, count_by, slice_get}, proofs.lemmas.List.{append-nil, length-append}}
use Rattle.std.{specs.Option.{is_some}, proofs.lemmas.{Bool.{leb-false}, List.Sums.{sum_by-cons}}}
use Rattle.std.proofs.Common.{[], ℕ, ◌++◌, ◌+◌, ◌∙◌, ◌∷◌, ◌≡◌, ◌≤◌, All, Bool, List, None, Option, Some, ap}
use Rattle.std.proofs.Common.{append_assoc, arith, cond, false, length, refl, subst, sym, true}
use Rattle.std.proofs.lemmas.List.Elements.{All-cons, All-head, All-nil, All-tail, filter_map-append}
use Rattle.tariff_check.specs.{Common.{ChoiceKind, Entry, Line, holiday}, Parts.{first_part, holiday_part, parts}}
use Rattle.tariff_check.{specs.Kinds.{part_of}, proofs.KindLaws.{kind_alike, part_is}}
use Rattle.tariff_check.{specs.Lines.{first_after, is_alike, is_one_too_many, most_alike}, proofs.FirstLine.{passed_by}}

parts_by : {A : Type 0} (P : A → Type 0) (o : Option A) (rest : List A) → ((y : A) → o ≡ Some y → P y) → All P rest
    → All P (cons_option o rest)
parts_by P None rest here all = all
parts_by P (Some y) rest here all = All-cons P y rest (here y refl) all

-- what each line gives has a property
abbrev pub Gives : {A : Type 0} → (Entry → Option A) → (A → Type 0) → Line → Type 0
Gives {A} part P l = (y : A) → part l.entry ≡ Some y → P y

pub parts_all : {A : Type 0} (part : Entry → Option A) (P : A → Type 0) (ls : List Line) → All (Gives part P) ls
    → All P (parts part ls)
parts_all part P [] all = All-nil P
parts_all part P (l ∷ ls) all =
    parts_by P (part l.entry) (parts part ls) (All-head (Gives part P) l ls all)
    (parts_all part P ls (All-tail (Gives part P) l ls all))

first_by : {A : Type 0} (P : A → Type 0) (xs : List A) (y : A) → slice_get xs 0 ≡ Some y → All P xs → P y
first_by P [] y h all = absurd cc
first_by P (x ∷ xs) y h all = let same : x ≡ y = cc in subst P same (All-head P x xs all)

-- and so what the first of them gives
pub first_part_has : {A : Type 0} (part : Entry → Option A) (P : A → Type 0) (ls : List Line) (y : A)
    → All (Gives part P) ls → first_part part ls ≡ Some y → P y
first_part_has part P ls y all h = first_by P (parts part ls) y h (parts_all part P ls all)

-- if lines are like one exactly if they have such a part, as many are
count_like : {A : Type 0} (part : Entry → Option A) (like : Entry → Bool) → ((y : Entry) → like y ≡ is_some (part y))
    → (ls : List Line) → count_by (λ (l : Line). like l.entry) ls ≡ length (parts part ls)
count_like part like same [] = refl
count_like part like same (l ∷ ls) =
    sum_by-cons (λ (m : Line). cond (like m.entry) 1 0) l ls
    ∙ counted (part l.entry) (like l.entry) (same l.entry) (parts part ls) _ (count_like part like same ls)
  where
    counted : {A : Type 0} (o : Option A) (b : Bool) → b ≡ is_some o → (rest : List A) (n : ℕ) → n ≡ length rest
        → cond b 1 0 + n ≡ length (cons_option o rest)
    counted None b e rest n h = rw e (omega arith)
    counted (Some y) b e rest n h = rw e (omega arith)

-- lines of the kind are like each other and like no other line, and so many of them there may be
abbrev pub IsKind : {A : Type 0} → (Entry → Option A) → ℕ → Type 0
IsKind part most = (x y : Entry) → is_some (part x) ≡ true → (most_alike x ≡ most) × (is_alike x y ≡ is_some (part y))

longer : {A : Type 0} (part : Entry → Option A) (most : ℕ) → IsKind part most
    → (before : List Line) (l : Line) (o : Option A) → part l.entry ≡ o → length (parts part before) ≤ most
    → is_one_too_many before l.entry ≡ false → length (parts part before) + length (cons_option o []) ≤ most
longer part most kind before l None e h t = omega arith
longer part most kind before l (Some y) e h t =
    let of_kind = ap is_some e in
    let count = count_like part (is_alike l.entry) (λ (x : Entry). (kind l.entry x of_kind).1) before in
    let below = leb-false _ _ t in
    omega (arith, (kind l.entry l.entry of_kind).0, count, below)

-- so there are no more than there may be
pub few : {A : Type 0} (part : Entry → Option A) (most : ℕ) → IsKind part most → (before ls : List Line)
    → length (parts part before) ≤ most → first_after is_one_too_many before ls ≡ None
    → length (parts part (before ++ ls)) ≤ most
few part most kind before [] h none = rw (append-nil before) h
few part most kind before (l ∷ ls) h none =
    let here = passed_by (is_one_too_many before l.entry) l.line _ none in
    let more = longer part most kind before l (part l.entry) refl h here.0 in
    let next : length (parts part (before ++ l ∷ [])) ≤ most = rw filter_map-append (rw length-append more) in
    rw (← append_assoc before (l ∷ []) ls) (few part most kind (before ++ l ∷ []) ls next here.1)

-- the sorts of lines
pub choices_alike : (kind : ChoiceKind) → IsKind (part_of kind) 64
choices_alike kind x y h = let alike = kind_alike kind x y h in (alike.0, alike.1 ∙ sym (part_is kind y))

pub holidays_alike : IsKind holiday_part 255
holidays_alike (holiday year month date) (holiday year₂ month₂ date₂) h = (refl, refl)
holidays_alike (holiday year month date) y h = (refl, refl)
holidays_alike x y h = absurd cc
