-- Rules: the supplements of tables.
use Rattle.std.specs.Prelude.{ℕ, ◌∷◌, None, Option, get_or}
use Rattle.meter_states.specs.Common.{Supplement, TableParts}

-- the supplement of a number in tables is the one at that place of their list, counted from 1, if there is one, and
-- none for the number 0
abbrev pub supplement_in : TableParts → (number : ℕ) → Option Supplement
supplement_in tables number = get_or (None ∷ tables.supplements) number None
