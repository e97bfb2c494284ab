-- Rules: the line of a tariff that counts in a context of a meter.
use Rattle.std.specs.Prelude.{ℕ, ◌&&◌, ◌==◌, Bool, None, Option, Some, false}
use Rattle.tariff_compare.specs.{Common.{ChoiceKind, MeterContext, Tree}, Kinds.{is_asked, place_at}}
use Rattle.tariff_compare.specs.Contexts.{context_at}

-- the test `is_at` is true if there is a place, and it is the wanted one
abbrev pub is_at : (wanted : ℕ) → Option ℕ → Bool
is_at wanted None = false
is_at wanted (Some place) = place == wanted

-- the test `counts` is true if the line of a kind at a place, from 0, counts in a context of a meter: it is the first
-- of the kind that holds there, and lines of the kind can count there
abbrev pub counts : Tree → (k : ℕ) → ChoiceKind → (place : ℕ) → MeterContext → Bool
counts t k kind place m = is_asked kind m && is_at place (place_at kind t (context_at t k m))
