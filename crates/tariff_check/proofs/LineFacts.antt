-- What holds of each line of a sound tariff whose numbers a text can have.
use Rattle.std.{specs.List.{list_any}, proofs.lemmas.Bool.{eqb-false, leb-true, ltb-false}}
use Rattle.std.proofs.Common.{[], ℕ, ◌&&◌, ◌==◌, ◌^◌, ◌∷◌, ◌≡◌, ◌≤◌, All, Bool, List, None, Option, Some, arith, false}
use Rattle.std.proofs.{Common.{not, refl, subst, true}, lemmas.List.Elements.{All-append, All-cons, All-nil}}
use Rattle.{tariff_tree.specs.Writable.{IsWritableCondition, IsWritableIf}, tariff_check.specs.Lines.{is_undated}}
use Rattle.tariff_check.specs.Common.{ChoiceKind, Condition, Entry, IsFromTo, IsWritableEntry, Rounding, Supplement}
use Rattle.tariff_check.specs.Common.{holiday, largest_display_step, positions, step, supplement, when_part, zones}
use Rattle.tariff_check.{specs.Kinds.{IsSoundSaid, Said, is_great, part_of}, proofs.FaultStages.{or_false}}
use Rattle.tariff_check.specs.Lines.{atoms_if, atoms_in, atoms_of, is_after_nothing, is_for_nothing, is_no_holiday}
use Rattle.tariff_check.specs.Parts.{DateNumbers, holiday_part, numbered_supplement, positions_part, step_part}
use Rattle.tariff_check.specs.{Parts.{zones_part}, Sound.{IsGoodAtom, IsSoundAtom, IsSoundHoliday, IsSoundSupplement}}
use Rattle.tariff_check.proofs.KindLaws.{said_sound, when_writable}
use Rattle.tariff_tree.specs.Condition as tree
use Rattle.tariff_tree.specs.Part as part

-- an entry breaks none of the rules for numbers
pub record IsGoodEntry (x : Entry) : Type 0 where
  pub writable : IsWritableEntry x
  pub moderate : is_great x ≡ false
  pub measured : is_for_nothing x ≡ false
  pub holiday : is_no_holiday x ≡ false
  pub dated : list_any is_undated (atoms_in x) ≡ false
  pub after_some : list_any is_after_nothing (atoms_in x) ≡ false

not_all_false : (b : Bool) → not b ≡ false → b ≡ true
not_all_false true h = refl
not_all_false false h = absurd cc

both_true : (a b : Bool) → (a && b) ≡ true → (a ≡ true) × (b ≡ true)
both_true true b h = (refl, h)
both_true false b h = absurd cc

pub step_fact : (x : Entry) → IsGoodEntry x → (s : ℕ × Rounding) → step_part x ≡ Some s → s.0 ≤ largest_display_step
step_fact (step amount rounding) good s h =
    let same : amount ≡ s.0 = cc in
    let most = ltb-false largest_display_step amount good.moderate in
    omega arith
step_fact x good s h = absurd cc

pub positions_fact : (x : Entry) → IsGoodEntry x → (n : ℕ) → positions_part x ≡ Some n → IsFromTo 1 9 n
positions_fact (positions m) good n h =
    let same : m ≡ n = cc in subst (IsFromTo 1 9) same (good.writable 0 part.comma (omega arith))
positions_fact x good n h = absurd cc

pub zones_fact : (x : Entry) → IsGoodEntry x → (n : ℕ) → zones_part x ≡ Some n → IsFromTo 1 9 n
zones_fact (zones m) good n h =
    let same : m ≡ n = cc in subst (IsFromTo 1 9) same (good.writable 0 part.comma (omega arith))
zones_fact x good n h = absurd cc

pub choice_fact : (kind : ChoiceKind) (x : Entry) → IsGoodEntry x → (said : Said kind) → part_of kind x ≡ Some said
    → IsSoundSaid kind said
choice_fact kind x good = said_sound kind x good.writable good.moderate good.measured

pub supplement_fact : (x : Entry) → IsGoodEntry x → (said : ℕ × Supplement)
    → numbered_supplement x ≡ Some said → IsSoundSupplement said.1
supplement_fact (supplement n amount most) good said h =
    let same : (n, record { amount = amount; max = most }) ≡ said = cc in
    subst (λ (x : ℕ × Supplement). IsSoundSupplement x.1) same
    (record { amount = ltb-false (10 ^ 6) amount good.moderate; most = good.writable 3 part.comma (omega arith) })
supplement_fact x good said h = absurd cc

pub holiday_fact : (x : Entry) → IsGoodEntry x → (d : DateNumbers) → holiday_part x ≡ Some d → IsSoundHoliday d
holiday_fact (holiday year month date) good d h =
    let same : record { year = year; month = month; date = date } ≡ d = cc in
    let from = both_true _ _ (not_all_false _ good.holiday) in
    let to = both_true _ _ from.1 in
    subst IsSoundHoliday same (record { year = (leb-true 2000 year from.0, leb-true year 2199 to.0); date = to.1 })
holiday_fact x good d h = absurd cc

-- the atoms of a condition with writable numbers have writable numbers
atoms_writable : (c : Condition) → IsWritableCondition c → All IsWritableCondition (atoms_of c)
atoms_writable (tree.and p q) h =
    All-append IsWritableCondition (atoms_of p) (atoms_of q) (atoms_writable p h.0) (atoms_writable q h.1)
atoms_writable (tree.or p q) h =
    All-append IsWritableCondition (atoms_of p) (atoms_of q) (atoms_writable p h.0) (atoms_writable q h.1)
atoms_writable (tree.not p) h = atoms_writable p h
atoms_writable c h = All-cons IsWritableCondition c [] h (All-nil IsWritableCondition)

if_writable : (when : Option Condition) → IsWritableIf when → All IsWritableCondition (atoms_if when)
if_writable None h = All-nil IsWritableCondition
if_writable (Some c) h = atoms_writable c h

none_any : {A : Type 0} (p : A → Bool) (xs : List A) → list_any p xs ≡ false → All (λ (x : A). p x ≡ false) xs
none_any {A} p [] h = All-nil (λ (x : A). p x ≡ false)
none_any {A} p (x ∷ xs) h =
    let parts = or_false (p x) (list_any p xs) h in
    All-cons (λ (y : A). p y ≡ false) x xs parts.0 (none_any p xs parts.1)

above_zero : (n : ℕ) → (n == 0) ≡ false → 1 ≤ n
above_zero n h = let apart = eqb-false n 0 h in omega arith

sound_atom : (c : Condition) → is_undated c ≡ false → is_after_nothing c ≡ false → IsSoundAtom c
sound_atom (tree.date from_month from_date to_month to_date) dated some = both_true _ _ (not_all_false _ dated)
sound_atom (tree.after_distance n) dated some = above_zero n some
sound_atom (tree.after_time n) dated some = above_zero n some
sound_atom c dated some = tt

-- the atoms of such an entry are good
pub good_atoms : (x : Entry) → IsGoodEntry x → All IsGoodAtom (atoms_in x)
good_atoms x good =
    let numbers = if_writable (when_part x) (when_writable x good.writable) in
    let dates = none_any is_undated (atoms_in x) good.dated in
    let afters = none_any is_after_nothing (atoms_in x) good.after_some in
    λ (k : ℕ) (d : Condition) within. (numbers k d within, sound_atom _ (dates k d within) (afters k d within))
