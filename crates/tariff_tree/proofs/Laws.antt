-- The laws of the first line that holds, one for each clause of the public law.
use Rattle.std.proofs.Common.{ℕ, ◌↔◌, ◌≡◌, List, Option}
use Rattle.tariff_tree.specs.{Choices.{choices, conditions_of, initial_part, minimum_part, rate_part}, Common.{Context}}
use Rattle.tariff_tree.{specs.{Condition.{Condition}, Meaning.{rate_place}}, proofs.PlaceLaws.{first_place_is}}
use Rattle.tariff_tree.specs.Meaning.{IsFirstPlace, at_hiring, holds_if, initial_place, minimum_place, place_of}
use Rattle.tariff_tree.specs.Tree.{Tree}

pub first_lines_hold-conditions : (x : Context) (conditions : List (Option Condition)) (place : Option ℕ)
    → (place_of x conditions ≡ place) ↔ IsFirstPlace (holds_if x) conditions place
first_lines_hold-conditions x = first_place_is (holds_if x)

pub first_lines_hold-rate : (t : Tree) (x : Context) (place : Option ℕ) → (rate_place t x ≡ place)
    ↔ IsFirstPlace (holds_if x) (conditions_of (choices rate_part t.lines)) place
first_lines_hold-rate t x = first_lines_hold-conditions x (conditions_of (choices rate_part t.lines))

pub first_lines_hold-initial : (t : Tree) (x : Context) (place : Option ℕ) → (initial_place t x ≡ place)
    ↔ IsFirstPlace (holds_if (at_hiring x)) (conditions_of (choices initial_part t.lines)) place
first_lines_hold-initial t x = first_lines_hold-conditions (at_hiring x) (conditions_of (choices initial_part t.lines))

pub first_lines_hold-minimum : (t : Tree) (x : Context) (place : Option ℕ) → (minimum_place t x ≡ place)
    ↔ IsFirstPlace (holds_if (at_hiring x)) (conditions_of (choices minimum_part t.lines)) place
first_lines_hold-minimum t x = first_lines_hold-conditions (at_hiring x) (conditions_of (choices minimum_part t.lines))
