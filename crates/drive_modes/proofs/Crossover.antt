-- Mode S charges by the cross-over speed.
use Rattle.std.proofs.Common.{ℕ, ◌*◌, ◌<◌, ◌↔◌, ◌∙◌, ◌≡◌, ◌≤◌, ap, arith, inl, inr, max, subst, sym}
use Rattle.std.proofs.Math.Nat.{lt_of_mul-lt-mul_left, lt_of_mul-lt-mul_right, mul-lt-mul_of_pos_left}
use Rattle.std.proofs.{Math.Nat.{mul-lt-mul_of_pos_right}, lemmas.{Bool.{cases_lt}, Grind.{common_steps}}}
use Rattle.drive_modes.specs.Charge.{charge_of}
use Rattle.drive_modes.specs.{Common.{Single, Weights}, Speed.{AreWeightsOf, IsBelowCrossOver, Rate}}

-- below the cross-over speed the time is charged
pub charge-below : (w : Weights) (p : ℕ) → p * w.per_pulse < w.per_tick → charge_of Single w p ≡ w.per_tick
charge-below w p below = grind (arith, common_steps)

-- from it on the distance is
pub charge-above : (w : Weights) (p : ℕ) → w.per_tick ≤ p * w.per_pulse → charge_of Single w p ≡ p * w.per_pulse
charge-above w p above = grind (arith, common_steps)

-- so the greater of both is charged
pub charge-greater : (w : Weights) (p : ℕ) → charge_of Single w p ≡ max (p * w.per_pulse) w.per_tick
charge-greater w p = grind (arith, common_steps)

-- what p pulses cost, and what an interval does, in one unit
distance_in_units : (rate : Rate) (k measure p : ℕ) (w : Weights) → AreWeightsOf rate k measure w
    → p * w.per_pulse * (rate.b * k * rate.e) ≡ measure * (10000 * p * (rate.a * rate.e))
distance_in_units rate k measure p w h =
    let apart : p * w.per_pulse * (rate.b * k * rate.e) ≡ w.per_pulse * (rate.b * k) * (p * rate.e) = omega arith in
    let joined : measure * (10000 * rate.a) * (p * rate.e) ≡ measure * (10000 * p * (rate.a * rate.e)) = omega arith in
    apart ∙ (ap (λ (n : ℕ). n * (p * rate.e)) h.per_pulse ∙ joined)

time_in_units : (rate : Rate) (k measure : ℕ) (w : Weights) → AreWeightsOf rate k measure w
    → w.per_tick * (rate.b * k * rate.e) ≡ measure * (rate.c * rate.b * k)
time_in_units rate k measure w h =
    let apart : w.per_tick * (rate.b * k * rate.e) ≡ w.per_tick * rate.e * (rate.b * k) = omega arith in
    let joined : measure * rate.c * (rate.b * k) ≡ measure * (rate.c * rate.b * k) = omega arith in
    apart ∙ (ap (λ (n : ℕ). n * (rate.b * k)) h.per_tick ∙ joined)

-- below the cross-over speed the distance costs less than the time
pub below_exactly : (rate : Rate) (k measure p : ℕ) (w : Weights) → AreWeightsOf rate k measure w → 0 < measure
    → 0 < rate.b * k * rate.e → IsBelowCrossOver rate k p ↔ (p * w.per_pulse < w.per_tick)
below_exactly rate k measure p w h some whole =
    let distance = distance_in_units rate k measure p w h in
    let time = time_in_units rate k measure w h in
    let unit = rate.b * k * rate.e in (
      λ below.
          let fewer : 10000 * p * (rate.a * rate.e) < rate.c * rate.b * k = omega arith in
          let more : measure * (10000 * p * (rate.a * rate.e)) < measure * (rate.c * rate.b * k) =
          mul-lt-mul_of_pos_left fewer some in
          lt_of_mul-lt-mul_right unit (subst (λ (n : ℕ). p * w.per_pulse * unit < n) (sym time)
          (subst (λ (n : ℕ). n < measure * (rate.c * rate.b * k)) (sym distance) more)),
      λ less.
          let more : p * w.per_pulse * unit < w.per_tick * unit = mul-lt-mul_of_pos_right less whole in
          let fewer : 10000 * p * (rate.a * rate.e) < rate.c * rate.b * k =
          lt_of_mul-lt-mul_left measure (subst (λ (n : ℕ). measure * (10000 * p * (rate.a * rate.e)) < n) time
          (subst (λ (n : ℕ). n < w.per_tick * unit) distance more)) in
          omega arith,
    )

pub time_below : (rate : Rate) (k measure p : ℕ) (w : Weights) → AreWeightsOf rate k measure w → 0 < measure
    → 0 < rate.b * k * rate.e → IsBelowCrossOver rate k p → charge_of Single w p ≡ w.per_tick
time_below rate k measure p w h some whole below =
    charge-below w p ((below_exactly rate k measure p w h some whole).0 below)

pub distance_above : (rate : Rate) (k measure p : ℕ) (w : Weights) → AreWeightsOf rate k measure w → 0 < measure
    → 0 < rate.b * k * rate.e → ¬ (IsBelowCrossOver rate k p) → charge_of Single w p ≡ p * w.per_pulse
distance_above rate k measure p w h some whole above =
    elim (cases_lt (p * w.per_pulse) w.per_tick) [
      | inl less ↦ absurd (above ((below_exactly rate k measure p w h some whole).1 less))
      | inr upto ↦ charge-above w p upto
    ]
