-- The first choice of a kind that holds, looked for line by line.
use Rattle.std.{specs.List.{position_from}, proofs.Common.{ℕ, ◌≡◌, ◌≤◌, List, Option, drop, map}}
use Rattle.tariff_tree.specs.{Choices.{choices, conditions_of}, declared.tariff.TariffLine.{TariffLine}}
use Rattle.tariff_tree.specs.{Common.{Context}, Meaning.{holds_if, place_of}, Tree.{Entry, line_of}}

-- none of the choices among the first `index` lines holds, and there are `place` of them
pub record IsPassed {V : Type 0} (part : Entry → Option V) (x : Context) (lines : List TariffLine)
    (place index : ℕ) : Type 0 where
  pub within : place ≤ index
  pub same : position_from (holds_if x) place (conditions_of (choices part (map line_of (drop index lines))))
      ≡ place_of x (conditions_of (choices part (map line_of lines)))
