-- Rules: which digits write which number, in a width and a range.
use Rattle.std.specs.{Prelude.{ℕ, ◌≡◌, ◌≤◌, List, length}, Str.Parse.{IsNumeral, digits_value}}

-- digits are those of a number if they are `fewest` to `most` decimal digits that have its value
pub record AreDigitsOf (fewest most : ℕ) (digits : List ℕ) (number : ℕ) : Type 0 where
  pub numeral : IsNumeral 10 digits
  pub some : fewest ≤ length digits
  pub few : length digits ≤ most
  pub value : digits_value 10 digits ≡ number

-- digits are a figure of a number if they are `fewest` to `most` digits of it, and it is of `low` to `high`
pub record IsFigure (fewest most low high : ℕ) (digits : List ℕ) (number : ℕ) : Type 0 where
  pub written : AreDigitsOf fewest most digits number
  pub above : low ≤ number
  pub below : number ≤ high

-- digits write a number of a range if they are a figure of it of 1 to 12 digits
abbrev pub IsNumberIn : (low high : ℕ) → (digits : List ℕ) → (number : ℕ) → Type 0
IsNumberIn low high digits number = IsFigure 1 12 low high digits number
