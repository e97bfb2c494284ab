-- A sound tariff tells its frame once.
use Rattle.std.specs.{List.{cons_option, list_any, slice_get}, Option.{is_none, is_some, unwrap_or}}
use Rattle.std.proofs.Common.{[], ℕ, ◌++◌, ◌∷◌, ◌≡◌, ◌≤◌, List, None, Option, Some, ap, append_assoc, arith, false, inl}
use Rattle.std.proofs.{Common.{inr, length, map, refl, sym, true}, lemmas.List.Elements.{filter_map-append}}
use Rattle.{std.proofs.lemmas.List.{append-nil}, drive_modes.specs.declared.meterage.Rounding.TheVariants.{Behind}}
use Rattle.tariff_check.specs.Common.{Duplicate, Entry, Line, NoStep, Rounding, Tree, positions, step, zones}
use Rattle.tariff_check.specs.{Faults.{IsSound}, Parts.{parts, positions_part, step_of, step_part, zones_part}}
use Rattle.tariff_check.specs.Lines.{excludes, first_after, first_line, is_duplicate}
use Rattle.tariff_check.{specs.SoundTariff.{HasFrame, IsToldOnce, entries_told, sound_of}, proofs.FirstLine.{passed_by}}
use Rattle.tariff_check.proofs.{ChoiceLaws.{entries_again}, FaultStages.{faults_none, not_if, nowhere, or_false}}

module _ {A : Type 0} (part : Entry → Option A) where
  -- two entries with the part exclude each other
  abbrev pub Excludes : Type 0
  Excludes = (x y : Entry) → is_some (part x) ≡ true → is_some (part y) ≡ true → excludes x y ≡ true

  none_there : (x : Entry) → ((y : Entry) → is_some (part y) ≡ true → excludes x y ≡ true) → (before : List Line)
      → list_any (λ (l : Line). excludes x l.entry) before ≡ false → parts part before ≡ []
  none_there x other [] h = refl
  none_there x other (l ∷ ls) h =
      let both = or_false (excludes x l.entry) _ h in
      no_part (part l.entry) (λ e. other l.entry e) both.0 (none_there x other ls both.1)
    where
      no_part : (o : Option A) → (is_some o ≡ true → excludes x l.entry ≡ true) → excludes x l.entry ≡ false
          → parts part ls ≡ [] → cons_option o (parts part ls) ≡ []
      no_part None here not rest = rest
      no_part (Some y) here not rest = absurd (let is = here refl in cc)

  -- so there is one at most
  alone : Excludes → (before ls : List Line) → length (parts part before) ≤ 1
      → first_after is_duplicate before ls ≡ None → length (parts part (before ++ ls)) ≤ 1
  alone other before [] h none = rw (append-nil before) h
  alone other before (l ∷ ls) h none =
      let here = passed_by (is_duplicate before l.entry) l.line _ none in
      let more : length (parts part before ++ cons_option (part l.entry) []) ≤ 1 =
      one_more (part l.entry) (λ e y f. other l.entry y e f) here.0 h in
      let next : length (parts part (before ++ l ∷ [])) ≤ 1 = rw filter_map-append more in
      rw (← append_assoc before (l ∷ []) ls) (alone other (before ++ l ∷ []) ls next here.1)
    where
      one_more : (o : Option A)
          → (is_some o ≡ true → (y : Entry) → is_some (part y) ≡ true → excludes l.entry y ≡ true)
          → is_duplicate before l.entry ≡ false → length (parts part before) ≤ 1
          → length (parts part before ++ cons_option o []) ≤ 1
      one_more None here not few = rw (append-nil (parts part before)) few
      one_more (Some y) here not few = rw (none_there l.entry (here refl) before not) (omega arith)

  pub only_one : Excludes → (ls : List Line) → first_line is_duplicate ls ≡ None → length (parts part ls) ≤ 1
  only_one other ls none = alone other [] ls (omega arith) none

told_once : (entry : ℕ → Entry) (xs : List ℕ) (entries : List Entry) → length xs ≤ 1 → map entry xs ≡ entries
    → IsToldOnce entry (unwrap_or (slice_get xs 0) 1) entries
told_once entry [] entries few same = inr (sym same, refl)
told_once entry (n ∷ []) entries few same = inl (sym same)
told_once entry (n ∷ m ∷ more) entries few same = absurd (omega arith)

step_excludes : Excludes step_part
step_excludes (step amount rounding) (step other also) e f = refl
step_excludes (step amount rounding) y e f = absurd cc
step_excludes x y e f = absurd cc

positions_excludes : Excludes positions_part
positions_excludes (positions n) (positions m) e f = refl
positions_excludes (positions n) y e f = absurd cc
positions_excludes x y e f = absurd cc

zones_excludes : Excludes zones_part
zones_excludes (zones n) (zones m) e f = refl
zones_excludes (zones n) y e f = absurd cc
zones_excludes x y e f = absurd cc

step_again : (x : Entry) (s : ℕ × Rounding) → step_part x ≡ Some s → step s.0 s.1 ≡ x
step_again (step amount rounding) s h =
    let same : s ≡ (amount, rounding) = cc in
    ap (λ (s : ℕ × Rounding). step s.0 s.1) same
step_again x s h = absurd cc

positions_again : (x : Entry) (n : ℕ) → positions_part x ≡ Some n → positions n ≡ x
positions_again (positions m) n h =
    let same : n ≡ m = cc in
    ap positions same
positions_again x n h = absurd cc

zones_again : (x : Entry) (n : ℕ) → zones_part x ≡ Some n → zones n ≡ x
zones_again (zones m) n h =
    let same : n ≡ m = cc in
    ap zones same
zones_again x n h = absurd cc

step_by : (xs : List (ℕ × Rounding)) (entries : List Entry) → length xs ≤ 1 → (slice_get xs 0 ≡ None → ⊥)
    → map (λ (s : ℕ × Rounding). step s.0 s.1) xs ≡ entries
    → entries ≡ step (unwrap_or (slice_get xs 0) (0, Behind)).0 (unwrap_or (slice_get xs 0) (0, Behind)).1 ∷ []
step_by [] entries few there same = absurd (there refl)
step_by (s ∷ []) entries few there same = sym same
step_by (s ∷ r ∷ more) entries few there same = absurd (omega arith)

some_step : (o : Option (ℕ × Rounding)) → is_some o ≡ true → o ≡ None → ⊥
some_step None there none = absurd cc
some_step (Some s) there none = absurd cc

some_if : (o : Option (ℕ × Rounding)) → is_none o ≡ false → is_some o ≡ true
some_if None h = absurd cc
some_if (Some s) h = refl

-- a sound tariff has its frame
pub frame_told : (t : Tree) → IsSound t → HasFrame t (sound_of t)
frame_told t h =
    let ls = t.lines in
    let none = faults_none t h in
    let once = nowhere Duplicate (first_line is_duplicate ls) (assumption none) in
    let there = some_if (step_of ls) (not_if _ NoStep (assumption none)) in
    record {
      step = step_by (parts step_part ls) (entries_told step_part ls) (only_one step_part step_excludes ls once)
          (some_step (step_of ls) there)
          (entries_again step_part (λ (s : ℕ × Rounding). step s.0 s.1) step_again ls);
      positions = told_once positions (parts positions_part ls) (entries_told positions_part ls)
          (only_one positions_part positions_excludes ls once)
          (entries_again positions_part positions positions_again ls);
      zones = told_once zones (parts zones_part ls) (entries_told zones_part ls)
          (only_one zones_part zones_excludes ls once) (entries_again zones_part zones zones_again ls);
    }
