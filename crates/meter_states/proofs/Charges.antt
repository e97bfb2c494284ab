-- The weights of the tables give the charges that the rate's own numbers give.
use Rattle.std.proofs.Common.{[], ℕ, ◌*◌, ◌+◌, ◌-◌, ◌/◌, ◌<◌, ◌∙◌, ◌∷◌, ◌≡◌, ◌≤◌, Bool, ap, arith, cond, false, ltb}
use Rattle.std.proofs.{Common.{refl, subst, suc, sym, true, zero}, lemmas.Bool.{le-ltb, lt-ltb, ltb-false, ltb-true}}
use Rattle.std.proofs.Math.Nat.{le_of_mul-le-mul_right, lt_of_mul-lt-mul_right, mul-le-mul_right}
use Rattle.std.proofs.Math.Nat.{mul-lt-mul_of_pos_right, mul-pos, mul_assoc, mul_comm, mul_left_comm}
use Rattle.std.proofs.lemmas.{Grind.{common_steps}, List.Elements.{All-head, All-tail}}
use Rattle.{drive_modes.specs.declared.charges.Mode.TheVariants.{Double, Single}, tariff_check.specs.Faults.{IsSound}}
use Rattle.tariff_check.specs.{Measure.{IsMultipleOfAll, measure_of}, Parts.{RateNumbers}, SoundLookups.{rate_in_force}}
use Rattle.{tariff_check.specs.SoundTariff.{sound_of}, meter_model.specs.Charge.{charge_by}}
use Rattle.tariff_check.proofs.Laws.{measures_are_least-in_force, measures_are_least-least, measures_are_least-sound}
use Rattle.tariff_compile.{specs.Tables.{weights_of}, proofs.Laws.{weights_are_those_of_their_rates-rate}}
use Rattle.meter_states.specs.Common.{Context, Mode, Setting, SoundTariff, TableParts, Tree, Weights, charge_at}
use Rattle.meter_states.specs.{Common.{charge_of, rate_by, weights_in_force}, Setting.{IsTariffOf}}

-- numbers that are scaled alike compare alike
same-below : (d t a c v w : ℕ) → 0 < v → 0 < w → d * v ≡ a * w → t * v ≡ c * w → (b : Bool) → ltb d t ≡ b → ltb a c ≡ b
same-below d t a c v w pv pw ed et true e =
    let less : d * v < t * v = mul-lt-mul_of_pos_right (ltb-true d t e) pv in
    lt-ltb a c (lt_of_mul-lt-mul_right w (omega (arith, less, ed, et)))
same-below d t a c v w pv pw ed et false e =
    let less : t * v ≤ d * v = mul-le-mul_right v (ltb-false d t e) in
    let scaled : c * w ≤ a * w = omega (arith, less, ed, et) in
    le-ltb a c (le_of_mul-le-mul_right scaled pw)

-- what the distance and the time of an interval weigh, times both measures
scaled_distance : (a b e p x : ℕ) → p * (10000 * a * x) * (b * e) ≡ 10000 * p * a * e * (x * b)
scaled_distance a b e p x = simp (mul_assoc, mul_comm, mul_left_comm)

scaled_time : (b c e k y : ℕ) → c * k * y * (b * e) ≡ c * k * b * (y * e)
scaled_time b c e k y = simp (mul_assoc, mul_comm, mul_left_comm)

-- both measures of a rate divide the common one
pub record DivideIt (m : ℕ) (r : RateNumbers) : Type 0 where
  pub first : m / r.b * r.b ≡ m
  pub second : m / r.e * r.e ≡ m

by_speed : (mode : Mode) (k common p : ℕ) (r : RateNumbers) → 0 < r.b → 0 < r.e → 0 < common → DivideIt common r
    → charge_of mode (weights_of k common r) p ≡ charge_by mode k common r p
by_speed Single k common p r b e positive divide =
    let distance : p * (10000 * r.a * (common / r.b)) * (r.b * r.e) ≡ 10000 * p * r.a * r.e * common =
    scaled_distance r.a r.b r.e p (common / r.b) ∙ ap (λ (n : ℕ). 10000 * p * r.a * r.e * n) divide.first in
    let time : r.c * k * (common / r.e) * (r.b * r.e) ≡ r.c * k * r.b * common =
    scaled_time r.b r.c r.e k (common / r.e) ∙ ap (λ (n : ℕ). r.c * k * r.b * n) divide.second in
    let same : ltb (10000 * p * r.a * r.e) (r.c * k * r.b)
    ≡ ltb (p * (10000 * r.a * (common / r.b))) (r.c * k * (common / r.e)) =
    same-below _ _ _ _ (r.b * r.e) common (mul-pos b e) positive distance time _ refl in
    ap (λ (below : Bool). cond below (r.c * k * (common / r.e)) (p * (10000 * r.a * (common / r.b)))) (sym same)
by_speed Double k common p r b e positive divide = refl

-- no number but 0 is a multiple of 0
divisor_some : (m n : ℕ) → 0 < m → m / n * n ≡ m → 0 < n
divisor_some m zero some is = absurd (omega (arith, some, is))
divisor_some m (suc n) some is = omega arith

-- so what both measures divide has them, and neither is 0
pub by_numbers : (mode : Mode) (k common p : ℕ) (r : RateNumbers) → 0 < common
    → IsMultipleOfAll (r.b ∷ r.e ∷ []) common → charge_of mode (weights_of k common r) p ≡ charge_by mode k common r p
by_numbers mode k common p r some all =
    let is = λ (n : ℕ). common / n * n ≡ common in
    let first : common / r.b * r.b ≡ common = All-head is r.b (r.e ∷ []) all in
    let second : common / r.e * r.e ≡ common = All-head is r.e [] (All-tail is r.b (r.e ∷ []) all) in
    by_speed mode k common p r (divisor_some common r.b some first) (divisor_some common r.e some second) some
    (record { first = first; second = second })

-- the charge of an interval in a context, by weights and by the rate's own numbers
charge-of-tree : (mode : Mode) (t : Tree) (k : ℕ) (x : Context) (p : ℕ) → IsSound t
    → charge_of mode (rate_by t k x) p ≡ charge_by mode k (measure_of t.lines) (rate_in_force (sound_of t) x) p
charge-of-tree mode t k x p sound =
    ap (λ (w : Weights). charge_of mode w p) (weights_are_those_of_their_rates-rate t k x sound)
    ∙ by_numbers mode k (measure_of t.lines) p (rate_in_force (sound_of t) x)
    (measures_are_least-least t.lines (measures_are_least-sound t sound)).positive
    (measures_are_least-in_force t x sound)

pub charge-at : (s : Setting) (tables : TableParts) (x : Context) (p : ℕ) → IsTariffOf s tables
    → charge_of s.mode (weights_in_force s.tariff s.constant x) p ≡ charge_at s x p
charge-at s tables x p is =
    subst (λ (t : SoundTariff). charge_of s.mode (weights_in_force t s.constant x) p
    ≡ charge_by s.mode s.constant t.measure (rate_in_force t x) p) (sym is.parts)
    (charge-of-tree s.mode is.tree s.constant x p is.compiled.sound)

charge-sum : (mode : Mode) (w : Weights) (p : ℕ) → charge_of mode w p ≤ p * w.per_pulse + w.per_tick
charge-sum Single w p = grind (arith, common_steps)
charge-sum Double w p = omega arith

-- the most that an interval costs
pub charge-most : (mode : Mode) (w : Weights) (p measure : ℕ) → p ≤ 2000 → w.per_pulse ≤ 20000000 * measure
    → w.per_tick ≤ 1000000 * measure → charge_of mode w p ≤ 40001000000 * measure
charge-most mode w p measure few pulse tick =
    let more : p * w.per_pulse ≤ 2000 * w.per_pulse = mul-le-mul_right w.per_pulse few in
    omega (arith, charge-sum mode w p)

-- and the display steps that it fills
pub steps-most : (rest charge cover step measure : ℕ) → 1 ≤ step → 0 < measure → rest < step * measure
    → charge ≤ 40001000000 * measure
    → (rest + (charge - cover)) / (step * measure) ≤ 40001000001
steps-most rest charge cover step measure one some below most =
    let larger : 1 * measure ≤ step * measure = mul-le-mul_right measure one in
    let pos : 0 < step * measure = omega arith in
    let whole : rest + (charge - cover) ≤ 40001000001 * (step * measure) = omega arith in
    grind (arith, common_steps)
