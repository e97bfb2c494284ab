-- Numbers that are within a share of others.
use Rattle.std.{specs.Prelude.{Bool, max, min}, proofs.lemmas.{List.Sums.{sum_by-cons}, Nat.{div-add-mod', mul-le}}}
use Rattle.std.proofs.Common.{[], ℕ, ◌%◌, ◌*◌, ◌+◌, ◌-◌, ◌/◌, ◌<◌, ◌^◌, ◌∙◌, ◌∷◌, ◌≡◌, ◌≤◌, ◌⊎◌, List, ap, arith, inl}
use Rattle.std.proofs.{Common.{inr, refl, subst, sum, sym, true}, Math.Nat.{le_of_mul-le-mul_left, mod-lt}}
use Rattle.{std.proofs.lemmas.Bool.{cases_lt}, near_commands.specs.Nearest.{apart, nearest, rounded_up}}
use Rattle.near_commands.specs.NearLaws.{AreWithin, IsWithin}

-- a number is within a share of another one if neither is more than the other one and that share
pub record AreClose (share x y : ℕ) : Type 0 where
  pub above : 10 ^ 9 * x ≤ 10 ^ 9 * y + share * y
  pub below : 10 ^ 9 * y ≤ 10 ^ 9 * x + share * y

pub close_of : (share x y : ℕ) → IsWithin share x y → AreClose share x y
close_of share x y is = record { above = omega (arith, is); below = omega (arith, is) }

pub of_close : (share x y : ℕ) → AreClose share x y → IsWithin share x y
of_close share x y is = either (cases_lt x y)
  where
    either : (x < y) ⊎ (y ≤ x) → IsWithin share x y
    either (inl less) = omega (arith, is.below)
    either (inr more) = omega (arith, is.above)

-- multiples are within it too, and what multiples are within, the numbers are
pub close_scaled : (share x y c : ℕ) → AreClose share x y → AreClose share (c * x) (c * y)
close_scaled share x y c is = record {
  above = omega (arith, mul-le c (10 ^ 9 * x) c (10 ^ 9 * y + share * y) (omega arith) is.above);
  below = omega (arith, mul-le c (10 ^ 9 * y) c (10 ^ 9 * x + share * y) (omega arith) is.below);
}

pub close_unscaled : (share x y c : ℕ) → 0 < c → AreClose share (c * x) (c * y) → AreClose share x y
close_unscaled share x y c some is = record {
  above = le_of_mul-le-mul_left {m = 10 ^ 9 * x} {n = 10 ^ 9 * y + share * y} {k = c} (omega (arith, is.above)) some;
  below = le_of_mul-le-mul_left {m = 10 ^ 9 * y} {n = 10 ^ 9 * x + share * y} {k = c} (omega (arith, is.below)) some;
}

pub close_sum : (share x y x' y' : ℕ) → AreClose share x y → AreClose share x' y' → AreClose share (x + x') (y + y')
close_sum share x y x' y' is is' = record {
  above = omega (arith, is.above, is'.above);
  below = omega (arith, is.below, is'.below);
}

pub close_max : (share x y x' y' : ℕ) → AreClose share x y → AreClose share x' y'
    → AreClose share (max x x') (max y y')
close_max share x y x' y' is is' =
    let one : share * y ≤ share * max y y' = mul-le share y share (max y y') (omega arith) (omega arith) in
    let other : share * y' ≤ share * max y y' = mul-le share y' share (max y y') (omega arith) (omega arith) in
    by (max y y') one other (omega arith) (omega arith) (which (cases_lt y y'))
  where
    which : (y < y') ⊎ (y' ≤ y) → (max y y' ≡ y) ⊎ (max y y' ≡ y')
    which (inl less) = inr (omega (arith, less))
    which (inr more) = inl (omega (arith, more))

    by : (z : ℕ) → share * y ≤ share * z → share * y' ≤ share * z → y ≤ z → y' ≤ z → (z ≡ y) ⊎ (z ≡ y')
        → AreClose share (max x x') z
    by z one other upto upto' same = record {
      above = omega (arith, is.above, is'.above, one, other, upto, upto');
      below = below same;
    }
      where
        below : (z ≡ y) ⊎ (z ≡ y') → 10 ^ 9 * z ≤ 10 ^ 9 * max x x' + share * z
        below (inl e) = subst (λ (v : ℕ). 10 ^ 9 * v ≤ 10 ^ 9 * max x x' + share * v) (sym e) (omega (arith, is.below))
        below (inr e) = subst (λ (v : ℕ). 10 ^ 9 * v ≤ 10 ^ 9 * max x x' + share * v) (sym e) (omega (arith, is'.below))

-- sums of charges that are within a share are within it
pub close_sums : (share : ℕ) (near given : List ℕ) → AreWithin share near given → AreClose share (sum near) (sum given)
close_sums share [] [] are = record { above = omega arith; below = omega arith }
close_sums share [] (g ∷ given) are = absurd are
close_sums share (n ∷ near) [] are = absurd are
close_sums share (n ∷ near) (g ∷ given) are =
    rw (sum_by-cons (λ (x : ℕ). x) n near, sum_by-cons (λ (x : ℕ). x) g given)
    (close_sum share n g (sum near) (sum given) (close_of share n g are.0) (close_sums share near given are.1))

-- the nearest amount
pub nearest_is : (amount measure other : ℕ) → 0 < measure
    → (2 * nearest amount measure other * measure ≤ 2 * amount * other + measure)
    × (2 * amount * other + measure < 2 * nearest amount measure other * measure + 2 * measure)
unfolding nearest
nearest_is amount measure other some =
    let n = 2 * amount * other + measure in
    let d = 2 * measure in
    let whole = div-add-mod' n d in
    let rest : n % d < d = mod-lt n (omega arith) in
    (omega (arith, whole), omega (arith, whole, rest))

-- a rounded quotient, times its divisor, is at least the number
pub up_enough : (n d : ℕ) → 0 < d → n ≤ rounded_up n d * d
up_enough n d some =
    let whole = div-add-mod' n d in
    let rest : n % d < d = mod-lt n some in
    either rest whole (cases_lt 0 (n % d))
  where
    either : n % d < d → n / d * d + n % d ≡ n → (0 < n % d) ⊎ (n % d ≤ 0) → n ≤ rounded_up n d * d
    either rest whole (inl more) =
        let one : n / d + min 1 (n % d) ≡ n / d + 1 = omega (arith, more) in
        rw one (omega (arith, whole, rest))
    either rest whole (inr none) =
        let one : n / d + min 1 (n % d) ≡ n / d = omega (arith, none) in
        rw one (omega (arith, whole, none))
