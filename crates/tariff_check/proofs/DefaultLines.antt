-- Some line always holds.
use Rattle.std.{specs.{List.{list_any}, Option.{is_none}}, proofs.lemmas.List.{length-map}}
use Rattle.std.proofs.Common.{[], ℕ, ◌<◌, ◌∷◌, ◌≡◌, All, Bool, List, None, Option, Some, arith, false, length, not}
use Rattle.std.proofs.{Common.{refl, true}, lemmas.{List.Elements.{All-head, All-tail}, Option.{slice_get_within}}}
use Rattle.tariff_tree.{specs.Choices.{Choice}, proofs.Laws.{first_lines_hold-conditions}}
use Rattle.tariff_check.specs.Common.{Condition, Context, Entry, NoDefaultInitial, NoDefaultRate, Tree, choice_place}
use Rattle.tariff_check.specs.{Common.{choices, conditions_of, holds_if, values_of}, Parts.{initial_part, rate_part}}
use Rattle.tariff_check.{specs.Faults.{IsSound, has_default}, proofs.FaultStages.{faults_none, not_if}}

-- if one of some lines is without a condition, not all fail to hold
default_holds : (x : Context) (conditions : List (Option Condition)) → list_any is_none conditions ≡ true
    → All (λ (when : Option Condition). holds_if x when ≡ false) conditions → ⊥
default_holds x [] h all = cc
default_holds x (None ∷ more) h all =
    let fails = All-head (λ (when : Option Condition). holds_if x when ≡ false) None more all in
    cc
default_holds x (Some when ∷ more) h all =
    default_holds x more h (All-tail (λ (when : Option Condition). holds_if x when ≡ false) (Some when) more all)

module _ {V : Type 0} (part : Entry → Option V) (t : Tree) (x : Context) where
  -- a choice that holds first is there
  pub choice_there : (place : ℕ) → choice_place part t x ≡ Some place
      → place < length (values_of (choices part t.lines))
  choice_there place h =
      let all = choices part t.lines in
      let first = (first_lines_hold-conditions x (conditions_of all) (Some place)).0 h in
      omega (
        arith,
        slice_get_within (conditions_of all) place first.0 first.1,
        length-map all (λ (c : Choice V). c.when),
        length-map all (λ (c : Choice V). c.value),
      )

  -- if one has no condition, one holds
  pub choice_always : has_default part t.lines ≡ true
      → (place : ℕ) × (choice_place part t x ≡ Some place) × (place < length (values_of (choices part t.lines)))
  choice_always default = by_place (choice_place part t x) refl
    where
      by_place : (o : Option ℕ) → choice_place part t x ≡ o
          → (place : ℕ) × (choice_place part t x ≡ Some place) × (place < length (values_of (choices part t.lines)))
      by_place None e =
          let conditions = conditions_of (choices part t.lines) in
          absurd (default_holds x conditions default ((first_lines_hold-conditions x conditions None).0 e))
      by_place (Some place) e = (place, e, choice_there place e)

not_false : (b : Bool) → not b ≡ false → b ≡ true
not_false true h = refl
not_false false h = absurd cc

-- a sound tariff has a rate without a condition
pub default_rate : (t : Tree) → IsSound t → has_default rate_part t.lines ≡ true
default_rate t h =
    let none = faults_none t h in
    not_false (has_default rate_part t.lines) (not_if _ NoDefaultRate (assumption none))

-- and an initial hire fee without one
pub default_initial : (t : Tree) → IsSound t → has_default initial_part t.lines ≡ true
default_initial t h =
    let none = faults_none t h in
    not_false (has_default initial_part t.lines) (not_if _ NoDefaultInitial (assumption none))
