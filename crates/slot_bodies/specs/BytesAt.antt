-- For proofs: numbers that are read at places of a body's bytes, the greatest byte first. A place counts from 0.
use Rattle.std.specs.{Int.{from_be_bytes, w16, w32, w64}, Prelude.{ℕ, ◌*◌, ◌+◌, ◌^◌, List, drop, get_or, take}}

-- the byte at a place
abbrev pub byte_at : List ℕ → ℕ → ℕ
byte_at bytes place = get_or bytes place 0

-- the number in the two bytes from a place on
abbrev pub two_at : List ℕ → ℕ → ℕ
two_at bytes place = from_be_bytes w16 (take 2 (drop place bytes))

-- the number in the four bytes from a place on
abbrev pub four_at : List ℕ → ℕ → ℕ
four_at bytes place = from_be_bytes w32 (take 4 (drop place bytes))

-- the number in the eight bytes from a place on
abbrev pub eight_at : List ℕ → ℕ → ℕ
eight_at bytes place = from_be_bytes w64 (take 8 (drop place bytes))

-- the number in the sixteen bytes from a place on
abbrev pub sixteen_at : List ℕ → ℕ → ℕ
sixteen_at bytes place = eight_at bytes place * 2 ^ 64 + eight_at bytes (place + 8)
