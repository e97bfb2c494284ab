-- Rules: the distance that pulses make, with k pulses to a kilometre.
use Rattle.std.specs.Prelude.{ℕ, ◌*◌, ◌/◌, ◌≤◌}

-- p pulses make p / k kilometres, of 1,000,000 mm each, in whole millimetres, rounded down
abbrev pub millimetres_of : (k p : ℕ) → ℕ
millimetres_of k p = 1000000 * p / k

-- p pulses have reached dm decimetres if k * dm is at most 10000 * p, since a kilometre has k pulses and 10,000
-- decimetres
abbrev pub HasReached : (k p dm : ℕ) → Type 0
HasReached k p dm = k * dm ≤ 10000 * p
