-- Rules: lines of a name and a number.
use Rattle.std.specs.Prelude.{ℕ, ◌++◌, List, codes, decimal}

-- a line of a name and a number is the name, the number in decimal digits, and an LF
abbrev pub number_line : (name : List ℕ) → ℕ → List ℕ
number_line name number = name ++ (decimal number ++ codes "\n")
