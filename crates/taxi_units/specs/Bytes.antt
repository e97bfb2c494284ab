-- Rules: lists of numbers that are bytes.
use Rattle.std.specs.Prelude.{ℕ, ◌<◌, List, get_or}

-- numbers are bytes if each of them is at most 255
abbrev pub AreBytes : List ℕ → Type 0
AreBytes numbers = (place : ℕ) → get_or numbers place 0 < 256
