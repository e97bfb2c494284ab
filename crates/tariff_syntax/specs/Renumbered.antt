-- Rules: the tariff of a printed form.
use Rattle.std.specs.Prelude.{[], ℕ, ◌+◌, ◌∷◌, List}
use Rattle.tariff_syntax.specs.Common.{Line, Tree}

-- lines are numbered one after another, from `number` on, and say what they said before
abbrev pub renumbered_from : (number : ℕ) → List Line → List Line
renumbered_from number [] = []
renumbered_from number (l ∷ ls) = record { line = number; entry = l.entry } ∷ renumbered_from (number + 1) ls

-- a tariff is renumbered so that its lines have the numbers that they have in its printed form, from 2 on
abbrev pub renumbered : Tree → Tree
renumbered t = record { decimals = t.decimals; lines = renumbered_from 2 t.lines }
