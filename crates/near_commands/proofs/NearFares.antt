-- Fares of charges that are within a share of others.
use Rattle.std.{specs.Prelude.{max, min}, proofs.lemmas.{Bool.{cases_lt}, Nat.{div-add-mod', mul-le}}}
use Rattle.std.proofs.Common.{ℕ, ◌%◌, ◌*◌, ◌+◌, ◌-◌, ◌/◌, ◌<◌, ◌^◌, ◌≡◌, ◌≤◌, ◌⊎◌, List, arith, inl, inr, refl, sum}
use Rattle.{std.proofs.Math.Nat.{mod-lt}, drive_modes.specs.declared.meterage.Rounding.TheVariants.{Ahead, Behind}}
use Rattle.drive_modes.specs.Fare.{Opening, above_cover, quotient, shown_fare, steps_above}
use Rattle.{drive_modes.specs.declared.meterage.Rounding.{Rounding}, near_commands.proofs.Shares.{AreClose, close_sums}}
use Rattle.near_commands.specs.{NearLaws.{AreWithin}, Nearest.{apart}}

-- numbers that are at most a divisor more have at most one whole more
one_more : (x y d : ℕ) → 0 < d → x ≤ y + d → x / d ≤ y / d + 1
one_more x y d some upto = either (cases_lt (y / d + 1) (x / d))
  where
    either : (y / d + 1 < x / d) ⊎ (x / d ≤ y / d + 1) → x / d ≤ y / d + 1
    either (inr is) = is
    either (inl more) =
        let times : (y / d + 2) * d ≤ x / d * d = mul-le (y / d + 2) d (x / d) d (omega (arith, more)) (omega arith) in
        let rest : y % d < d = mod-lt y some in
        absurd (omega (arith, times, rest, upto, div-add-mod' x d, div-add-mod' y d))

quotients : (rounding : Rounding) (x y d : ℕ) → 0 < d → x ≤ y + d → quotient rounding x d ≤ quotient rounding y d + 1
quotients Behind x y d some upto = one_more x y d some upto
quotients Ahead x y d some upto = one_more (x + (d - 1)) (y + (d - 1)) d some (omega (arith, upto))

fares : (initial minimum step n m : ℕ) → n ≤ m + 1
    → shown_fare initial minimum step n ≤ shown_fare initial minimum step m + step
fares initial minimum step n m upto =
    let times : step * n ≤ step * (m + 1) = mul-le step n step (m + 1) (omega arith) upto in
    by (step * n) (step * m) (omega (arith, times))
  where
    by : (a b : ℕ) → a ≤ b + step
        → min 99999999 (max minimum (initial + a)) ≤ min 99999999 (max minimum (initial + b)) + step
    by a b h = omega (arith, h)

close_units : (share modulus x y : ℕ) → AreClose share x y → share * y ≤ 10 ^ 9 * modulus
    → (x ≤ y + modulus) × (y ≤ x + modulus)
close_units share modulus x y is few = (omega (arith, is.above, few), omega (arith, is.below, few))

pub fares_within : (share initial minimum step : ℕ) (rounding : Rounding) (o : Opening) (near given : List ℕ)
    → 0 < o.modulus → AreWithin share near given → share * sum given ≤ 10 ^ 9 * o.modulus
    → apart (shown_fare initial minimum step (steps_above rounding o (sum near)))
    (shown_fare initial minimum step (steps_above rounding o (sum given))) ≤ step
fares_within share initial minimum step rounding o near given some are few =
    let both = close_units share o.modulus (sum near) (sum given) (close_sums share near given are) few in
    let x = above_cover o (sum near) in
    let y = above_cover o (sum given) in
    let up = fares initial minimum step (quotient rounding x o.modulus) (quotient rounding y o.modulus)
    (quotients rounding x y o.modulus some (omega (arith, both.0))) in
    let down = fares initial minimum step (quotient rounding y o.modulus) (quotient rounding x o.modulus)
    (quotients rounding y x o.modulus some (omega (arith, both.1))) in
    by _ _ up down
  where
    by : (f g : ℕ) → f ≤ g + step → g ≤ f + step → apart f g ≤ step
    by f g up down = omega (arith, up, down)
