-- The numbers that digits make, and a limit.
use Rattle.{std.specs.{Char.{digit_value}, Str.Parse.{digits_value_after}}, receipt_text.specs.Figures.{value_below}}
use Rattle.std.proofs.{Common.{[], ℕ, ◌*◌, ◌+◌, ◌∷◌, ◌≡◌, ◌≤◌, List, None, arith, refl}, lemmas.Bool.{le-ltb}}

-- a value doesn't fall
pub value_grows : (n : ℕ) (xs : List ℕ) → n ≤ digits_value_after 10 n xs
value_grows n [] = omega arith
value_grows n (x ∷ xs) = omega (arith, value_grows (n * 10 + digit_value x) xs)

pub none_below : (limit start : ℕ) (digits : List ℕ) → limit ≤ digits_value_after 10 start digits
    → value_below limit start digits ≡ None
none_below limit start digits large = rw (le-ltb (digits_value_after 10 start digits) limit large) refl
