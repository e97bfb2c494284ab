-- Rules: texts that are printed from memory, in pieces.
use Rattle.std.specs.Prelude.{ℕ, ◌+◌, ◌/◌}

-- a number of bytes is printed in as few pieces as it can be if a piece has at most 512 bytes
abbrev pub pieces_of : ℕ → ℕ
pieces_of bytes = (bytes + 511) / 512
