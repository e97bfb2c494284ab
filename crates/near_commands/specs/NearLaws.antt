-- Rules: what is promised of a near tariff.
use Rattle.std.specs.{List.{slice_get}, Prelude.{[], ℕ, ⊤, ◌*◌, ◌/◌, ◌^◌, ◌∷◌, ◌≡◌, ◌≤◌, List, Some, sum}}
use Rattle.near_commands.specs.{Common.{RateNumbers, Tree, rate_place}, Nearest.{apart}}

-- a number is within a share of another one, in parts of 10^9, if it is apart from it by at most that share of it
abbrev pub IsWithin : (share number given : ℕ) → Type 0
IsWithin share number given = 10 ^ 9 * apart number given ≤ share * given

-- a rate is within a share of another one if what it charges for a decimetre, and for a tenth of a second, is
pub record IsRateWithin (share : ℕ) (near given : RateNumbers) : Type 0 where
  pub distance : IsWithin share (near.a * given.b) (given.a * near.b)
  pub time : IsWithin share (near.c * given.e) (given.c * near.e)

-- a number is a multiple of the measures of a rate if both divide it
pub record IsMultipleOf (number : ℕ) (r : RateNumbers) : Type 0 where
  pub distance : number / r.b * r.b ≡ number
  pub time : number / r.e * r.e ≡ number

-- charges are within a share of others if each is within it of the one at its place
abbrev pub AreWithin : (share : ℕ) → (near given : List ℕ) → Type 0
AreWithin share [] [] = ⊤
AreWithin share [] (g ∷ given) = ⊥
AreWithin share (n ∷ near) [] = ⊥
AreWithin share (n ∷ near) (g ∷ given) = IsWithin share n g × AreWithin share near given
