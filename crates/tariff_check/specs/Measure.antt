-- Rules: the common measure of a tariff.
use Rattle.std.specs.{List.{flat_map}, Prelude.{[], ℕ, ◌%◌, ◌*◌, ◌+◌, ◌/◌, ◌<◌, ◌∷◌, ◌≡◌, ◌≤◌, All, List, suc, zero}}
use Rattle.tariff_check.specs.{Common.{Line}, Parts.{RateNumbers, rates_of}}

-- the measures of lines are the decimetres and the tenths of a second of each of their rates
abbrev pub measures_of : List Line → List ℕ
measures_of lines = flat_map (λ (r : RateNumbers). r.b ∷ r.e ∷ []) (rates_of lines)

-- the greatest number that divides two is found by Euclid's remainders, at most `fuel` of them
unfoldable pub gcd_in : (fuel a b : ℕ) → ℕ
gcd_in zero a b = a
gcd_in (suc fuel) a zero = a
gcd_in (suc fuel) a (suc b) = gcd_in fuel (suc b) (a % suc b)

-- the greatest number that divides two is found by b + 1 remainders at most
unfoldable pub gcd_of : (a b : ℕ) → ℕ
gcd_of a b = gcd_in (b + 1) a b

-- the least common multiple of two numbers is the first, divided by the greatest divisor of both, times the second
abbrev pub lcm_of : (a b : ℕ) → ℕ
lcm_of a b = a / gcd_of a b * b

-- the least common multiple of a number and more numbers is taken one number after another
abbrev pub common_with : (first : ℕ) → List ℕ → ℕ
common_with first [] = first
common_with first (n ∷ ns) = common_with (lcm_of first n) ns

-- the common measure of a tariff is the least common multiple of all measures of its rates
abbrev pub measure_of : List Line → ℕ
measure_of lines = common_with 1 (measures_of lines)

-- a number is a multiple of all if it is a whole multiple of each
abbrev pub IsMultipleOfAll : List ℕ → ℕ → Type 0
IsMultipleOfAll ns m = All (λ n. m / n * n ≡ m) ns

-- a number is the least common multiple of some if it is above 0 and a multiple of all, and no smaller number is
pub record IsLeastCommonMultiple (ns : List ℕ) (m : ℕ) : Type 0 where
  pub positive : 0 < m
  pub multiple : IsMultipleOfAll ns m
  pub least : (n : ℕ) → 0 < n → IsMultipleOfAll ns n → m ≤ n
