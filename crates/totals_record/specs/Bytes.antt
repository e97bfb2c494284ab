-- Rules: numbers in bytes, the greatest byte first.
use Rattle.std.specs.{Int.{to_be_bytes, w32, w64}, Prelude.{ℕ, ◌%◌, ◌++◌, ◌/◌, ◌^◌, Bool, List, if◌then◌else◌}}

-- a number is written in four bytes
abbrev pub four : ℕ → List ℕ
four n = to_be_bytes w32 n

-- a number is written in eight bytes
abbrev pub eight : ℕ → List ℕ
eight n = to_be_bytes w64 n

-- a number is written in sixteen bytes, of which the first eight have the quotient by 2^64 and the others the remainder
abbrev pub sixteen : ℕ → List ℕ
sixteen n = eight (n / 2 ^ 64) ++ eight (n % 2 ^ 64)

-- a yes is written as 1, and a no as 0
abbrev pub bit : Bool → ℕ
bit b = if b then 1 else 0
