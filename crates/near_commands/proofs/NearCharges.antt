-- Charges under a near rate.
use Rattle.std.{specs.Prelude.{max}, proofs.lemmas.{Bool.{cases_lt}, Nat.{mul-le}}}
use Rattle.std.proofs.Common.{ℕ, ◌*◌, ◌+◌, ◌/◌, ◌<◌, ◌≡◌, ◌≤◌, ◌⊎◌, ap, arith, inl, inr, refl, subst, sym}
use Rattle.drive_modes.{specs.Charge.{charge_of}, proofs.Laws.{charge-greater}}
use Rattle.drive_modes.specs.declared.charges.{Mode.{Mode, TheVariants.{Double, Single}}, Weights.{Weights}}
use Rattle.{tariff_compile.specs.Tables.{weights_of}, near_commands.proofs.Shares.{of_close}}
use Rattle.near_commands.specs.{Common.{RateNumbers}, NearLaws.{IsMultipleOf, IsRateWithin, IsWithin}}
use Rattle.near_commands.proofs.Shares.{AreClose, close_max, close_of, close_scaled, close_sum, close_unscaled}

none_of : (q b : ℕ) → 0 < b → q * b ≤ 0 → q ≡ 0
none_of q b some none = either (cases_lt 0 q)
  where
    either : (0 < q) ⊎ (q ≤ 0) → q ≡ 0
    either (inr is) = omega (arith, is)
    either (inl more) =
        let both : 1 * 1 ≤ q * b = mul-le 1 1 q b (omega (arith, more)) (omega (arith, some)) in
        absurd (omega (arith, both, none))

-- prices by measures are prices by a number that these divide: x times b, and y times d, is the number
in_common : (share a b c d x y common : ℕ) → 0 < b → 0 < d → x * b ≡ common → y * d ≡ common
    → AreClose share (a * d) (c * b) → AreClose share (a * x) (c * y)
in_common share a b c d x y common some_b some_d first second is = either (cases_lt 0 common)
  where
    either : (0 < common) ⊎ (common ≤ 0) → AreClose share (a * x) (c * y)
    either (inl more) =
        close_unscaled share (a * x) (c * y) common more
        (subst (λ (u : ℕ). AreClose share u (common * (c * y))) left
        (subst (λ (v : ℕ). AreClose share (x * y * (a * d)) v) right
        (close_scaled share (a * d) (c * b) (x * y) is)))
      where
        left : x * y * (a * d) ≡ common * (a * x)
        left = omega (arith, ap (λ (z : ℕ). z * (a * x)) second)

        right : x * y * (c * b) ≡ common * (c * y)
        right = omega (arith, ap (λ (z : ℕ). z * (c * y)) first)
    either (inr none) =
        let no_x : x ≡ 0 = none_of x b some_b (omega (arith, first, none)) in
        let no_y : y ≡ 0 = none_of y d some_d (omega (arith, second, none)) in
        rw (no_x, no_y) (record { above = omega arith; below = omega arith })

same : (share u v s t : ℕ) → u ≡ s → v ≡ t → AreClose share u v → AreClose share s t
same share u v s t first second is =
    subst (λ (x : ℕ). AreClose share x t) first (subst (λ (y : ℕ). AreClose share u y) second is)

by_mode : (share : ℕ) (mode : Mode) (p : ℕ) (v w : Weights) → AreClose share (p * v.per_pulse) (p * w.per_pulse)
    → AreClose share v.per_tick w.per_tick → AreClose share (charge_of mode v p) (charge_of mode w p)
by_mode share Single p v w way time =
    rw (charge-greater v p, charge-greater w p)
    (close_max share (p * v.per_pulse) (p * w.per_pulse) v.per_tick w.per_tick way time)
by_mode share Double p v w way time =
    close_sum share (p * v.per_pulse) (p * w.per_pulse) v.per_tick w.per_tick way time

pub charges_within : (share k common p : ℕ) (mode : Mode) (near given : RateNumbers)
    → 0 < near.b → 0 < near.e → 0 < given.b → 0 < given.e → IsRateWithin share near given
    → IsMultipleOf common near → IsMultipleOf common given
    → IsWithin share (charge_of mode (weights_of k common near) p) (charge_of mode (weights_of k common given) p)
charges_within share k common p mode near given b e b' e' is of_near of_given =
    let way = in_common share near.a near.b given.a given.b (common / near.b) (common / given.b) common b b'
    of_near.distance of_given.distance (close_of share _ _ is.distance) in
    let time = in_common share near.c near.e given.c given.e (common / near.e) (common / given.e) common e e'
    of_near.time of_given.time (close_of share _ _ is.time) in
    let pulse = close_scaled share (near.a * (common / near.b)) (given.a * (common / given.b)) (10000 * p) way in
    let tick = close_scaled share (near.c * (common / near.e)) (given.c * (common / given.e)) k time in
    of_close share _ _ (by_mode share mode p (weights_of k common near) (weights_of k common given)
    (same share _ _ (p * (10000 * near.a * (common / near.b))) (p * (10000 * given.a * (common / given.b)))
    (omega arith) (omega arith) pulse)
    (same share _ _ (near.c * k * (common / near.e)) (given.c * k * (common / given.e))
    (omega arith) (omega arith) tick))
