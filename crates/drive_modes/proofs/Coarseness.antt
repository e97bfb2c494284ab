-- How much an even speed is charged above what its intervals come to as one, in whole units of charge and as a share.
use Rattle.std.proofs.Common.{ℕ, ◌%◌, ◌*◌, ◌+◌, ◌-◌, ◌/◌, ◌<◌, ◌∙◌, ◌≡◌, ◌≤◌, ◌⊎◌, List, ap, arith, inl, inr, length}
use Rattle.std.proofs.{Common.{subst, sym}, Math.Nat.{mul-lt-mul_of_pos_left}}
use Rattle.std.proofs.Math.Nat.{eq_of_mul-eq-mul_left, le_of_mul-le-mul_left, lt_of_mul-lt-mul_left}
use Rattle.std.proofs.lemmas.{Bool.{cases_lt}, Nat.{div-add-mod', le-div, mod-mul-add, mod_below, mul-le}}
use Rattle.drive_modes.{specs.Common.{Single, Weights}, proofs.EvenSpeeds.{exact_above, exact_free, nearly, none_above}}
use Rattle.drive_modes.specs.Speed.{AreWeightsOf, Rate}
use Rattle.drive_modes.specs.Speeds.{IsEvenSpeed, charge_as_one, charged, coarseness, own_weights}

-- the bound in whole units of charge
pub most_even : (w : Weights) (n : ℕ) (pulses : List ℕ) → IsEvenSpeed n pulses
    → charged Single w pulses ≤ charge_as_one w pulses + length pulses * coarseness w / w.per_pulse
most_even w n pulses even = either (cases_lt 0 w.per_pulse)
  where
    either : (0 < w.per_pulse) ⊎ (w.per_pulse ≤ 0)
        → charged Single w pulses ≤ charge_as_one w pulses + length pulses * coarseness w / w.per_pulse
    either (inl some) =
        let above = charged Single w pulses - charge_as_one w pulses in
        let bound : above * w.per_pulse ≤ length pulses * coarseness w = omega (arith, nearly w n pulses even) in
        omega (arith, le-div above (length pulses * coarseness w) w.per_pulse some bound)
    either (inr none) = omega (arith, exact_free w pulses (omega arith))

-- four times a product is at most the square of the sum
four_products_upto : (u d : ℕ) → 4 * (u * (u + d)) ≤ (u + (u + d)) * (u + (u + d))
four_products_upto u d = omega arith

four_products : (u v : ℕ) → 4 * (u * v) ≤ (u + v) * (u + v)
four_products u v = either (cases_lt u v)
  where
    either : (u < v) ⊎ (v ≤ u) → 4 * (u * v) ≤ (u + v) * (u + v)
    either (inl less) =
        let greater : u + (v - u) ≡ v = omega arith in
        subst (λ (x : ℕ). 4 * (u * x) ≤ (u + x) * (u + x)) greater (four_products_upto u (v - u))
    either (inr upto) =
        let greater : v + (u - v) ≡ u = omega arith in
        let turned = subst (λ (x : ℕ). 4 * (v * x) ≤ (v + x) * (v + x)) greater (four_products_upto v (u - v)) in
        omega (arith, turned)

-- so the coarseness is at most a quarter of the square of a pulse's weight
coarse_most : (w : Weights) → 0 < w.per_pulse → 4 * coarseness w ≤ w.per_pulse * w.per_pulse
coarse_most w some =
    let u = w.per_tick % w.per_pulse in
    let whole : u + (w.per_pulse - u) ≡ w.per_pulse = omega (arith, mod_below w.per_tick w.per_pulse some) in
    subst (λ (x : ℕ). 4 * coarseness w ≤ x * x) whole (four_products u (w.per_pulse - u))

quarter_of : (w : Weights) (count above : ℕ) → 0 < w.per_pulse → w.per_pulse * above ≤ count * coarseness w
    → 4 * above ≤ count * w.per_pulse
quarter_of w count above some bound =
    let more : count * (4 * coarseness w) ≤ count * (w.per_pulse * w.per_pulse) =
    mul-le count (4 * coarseness w) count (w.per_pulse * w.per_pulse) (omega arith) (coarse_most w some) in
    let products : w.per_pulse * (4 * above) ≤ w.per_pulse * (count * w.per_pulse) = omega (arith, more, bound) in
    le_of_mul-le-mul_left products some

-- a quarter of a pulse's weight an interval
pub quarter : (w : Weights) (n : ℕ) (pulses : List ℕ) → IsEvenSpeed n pulses
    → 4 * charged Single w pulses ≤ 4 * charge_as_one w pulses + length pulses * w.per_pulse
quarter w n pulses even = either (cases_lt 0 w.per_pulse)
  where
    either : (0 < w.per_pulse) ⊎ (w.per_pulse ≤ 0)
        → 4 * charged Single w pulses ≤ 4 * charge_as_one w pulses + length pulses * w.per_pulse
    either (inl some) =
        let above = charged Single w pulses - charge_as_one w pulses in
        omega (arith, quarter_of w (length pulses) above some (nearly w n pulses even))
    either (inr none) = omega (arith, exact_free w pulses (omega arith))

-- as a share of what the intervals come to as one, whose time alone comes to no more than that
pub share : (w : Weights) (n : ℕ) (pulses : List ℕ) → IsEvenSpeed n pulses
    → w.per_pulse * w.per_tick * (charged Single w pulses - charge_as_one w pulses)
    ≤ coarseness w * charge_as_one w pulses
share w n pulses even =
    let as_one = charge_as_one w pulses in
    let above = charged Single w pulses - as_one in
    let bound : w.per_tick * (w.per_pulse * above) ≤ w.per_tick * (length pulses * coarseness w) =
    mul-le w.per_tick (w.per_pulse * above) w.per_tick (length pulses * coarseness w) (omega arith)
    (nearly w n pulses even) in
    let time : coarseness w * (length pulses * w.per_tick) ≤ coarseness w * as_one =
    mul-le (coarseness w) (length pulses * w.per_tick) (coarseness w) as_one (omega arith) (omega arith) in
    omega (arith, bound, time)

-- if t to w is as q to p, so are the remainders of t by w and of q by p, which are to w as to p
remainders : (w t p q : ℕ) → 0 < w → 0 < p → t * p ≡ q * w → (q % p) * w ≡ (t % w) * p
remainders w t p q some whole ratio =
    let n = t / w in
    let u = t % w in
    let parts : n * w * p + u * p ≡ q * w = omega (arith, ratio, ap (λ (x : ℕ). x * p) (div-add-mod' t w)) in
    let whole_parts : w * (n * p) ≤ w * q = omega (arith, parts) in
    let upto : n * p ≤ q = le_of_mul-le-mul_left whole_parts some in
    let split : n * p + (q - n * p) ≡ q = omega arith in
    let left : (q - n * p) * w ≡ u * p = omega (arith, parts, ap (λ (x : ℕ). x * w) split) in
    let less : u < w = mod_below t w some in
    let products : p * u < p * w = mul-lt-mul_of_pos_left less whole in
    let lefts : w * (q - n * p) < w * p = omega (arith, left, products) in
    let below : q - n * p < p = lt_of_mul-lt-mul_left w lefts in
    let rest : q % p ≡ q - n * p = ap (λ (x : ℕ). x % p) (sym split) ∙ mod-mul-add n p (q - n * p) below in
    ap (λ (x : ℕ). x * w) rest ∙ left

-- so are the products of such remainders and of what they lack
shares : (w t p q u v r s : ℕ) → 0 < w → r * w ≡ u * p → s * w ≡ v * p → t * p ≡ q * w
    → r * s * (w * t) ≡ u * v * (p * q)
shares w t p q u v r s some low high ratio =
    let lows = ap (λ (z : ℕ). z * (s * w * t)) low in
    let highs = ap (λ (z : ℕ). z * (u * p * t)) high in
    let ratios = ap (λ (z : ℕ). z * (u * v * p)) ratio in
    let same : w * (r * s * (w * t)) ≡ w * (u * v * (p * q)) = omega (arith, lows, highs, ratios) in
    eq_of_mul-eq-mul_left w some (r * s * (w * t)) (u * v * (p * q)) same

-- so the coarseness is the same share of the product of both weights
same_share : (x y : Weights) → 0 < x.per_pulse → 0 < y.per_pulse
    → x.per_tick * y.per_pulse ≡ y.per_tick * x.per_pulse
    → coarseness y * (x.per_pulse * x.per_tick) ≡ coarseness x * (y.per_pulse * y.per_tick)
same_share x y some whole ratio =
    let w = x.per_pulse in
    let t = x.per_tick in
    let p = y.per_pulse in
    let q = y.per_tick in
    let u = t % w in
    let r = q % p in
    let low : r * w ≡ u * p = remainders w t p q some whole ratio in
    let small : u + (w - u) ≡ w = omega (arith, mod_below t w some) in
    let other : r + (p - r) ≡ p = omega (arith, mod_below q p whole) in
    let high : (p - r) * w ≡ (w - u) * p =
    omega (arith, low, ap (λ (z : ℕ). z * p) small, ap (λ (z : ℕ). z * w) other) in
    shares w t p q u (w - u) r (p - r) some low high ratio

-- a bound by such a share, by the one and by the other weights
bound_by_share : (w t p q c d x m : ℕ) → 0 < w → 0 < t → d * (w * t) ≡ c * (p * q) → w * t * x ≤ c * m
    → p * q * x ≤ d * m
bound_by_share w t p q c d x m some time same bound =
    let wide : p * q * (w * t * x) ≤ p * q * (c * m) =
    mul-le (p * q) (w * t * x) (p * q) (c * m) (omega arith) bound in
    let turned = ap (λ (z : ℕ). z * m) same in
    let products : w * t * (p * q * x) ≤ w * t * (d * m) = omega (arith, wide, turned) in
    let both : 1 * 1 ≤ w * t = mul-le 1 1 w t (omega arith) (omega arith) in
    le_of_mul-le-mul_left products (omega (arith, both))

-- a rate's own weights are in the ratio of its weights
own_ratio : (rate : Rate) (k measure : ℕ) (w : Weights) → AreWeightsOf rate k measure w
    → w.per_tick * (own_weights rate k).per_pulse ≡ (own_weights rate k).per_tick * w.per_pulse
own_ratio rate k measure w is =
    let distance = ap (λ (z : ℕ). z * rate.c) is.per_pulse in
    let time = ap (λ (z : ℕ). z * (10000 * rate.a)) is.per_tick in
    omega (arith, distance, time)

-- so the share is the same by all weights that are in one ratio
share_by : (w own : Weights) (n : ℕ) (pulses : List ℕ) → w.per_tick * own.per_pulse ≡ own.per_tick * w.per_pulse
    → IsEvenSpeed n pulses
    → own.per_pulse * own.per_tick * (charged Single w pulses - charge_as_one w pulses)
    ≤ coarseness own * charge_as_one w pulses
share_by w own n pulses ratio even =
    either (cases_lt 0 w.per_pulse) (cases_lt 0 w.per_tick) (cases_lt 0 own.per_pulse)
  where
    either : (0 < w.per_pulse) ⊎ (w.per_pulse ≤ 0) → (0 < w.per_tick) ⊎ (w.per_tick ≤ 0)
        → (0 < own.per_pulse) ⊎ (own.per_pulse ≤ 0)
        → own.per_pulse * own.per_tick * (charged Single w pulses - charge_as_one w pulses)
        ≤ coarseness own * charge_as_one w pulses
    either (inr free) time whole = none_above _ _ _ _ (exact_free w pulses (omega arith))
    either (inl some) (inr none) whole = none_above _ _ _ _ (exact_above w n pulses even (omega arith))
    either (inl some) (inl time) (inr nothing) =
        let free : own.per_pulse ≡ 0 = omega arith in
        let none = ap (λ (z : ℕ). z * own.per_tick * (charged Single w pulses - charge_as_one w pulses)) free in
        omega (arith, none)
    either (inl some) (inl time) (inl whole) =
        bound_by_share w.per_pulse w.per_tick own.per_pulse own.per_tick (coarseness w) (coarseness own)
        (charged Single w pulses - charge_as_one w pulses) (charge_as_one w pulses) some time
        (same_share w own some whole ratio) (share w n pulses even)

pub own_share : (rate : Rate) (k measure : ℕ) (w : Weights) (n : ℕ) (pulses : List ℕ) → AreWeightsOf rate k measure w
    → IsEvenSpeed n pulses
    → let own = own_weights rate k in
    own.per_pulse * own.per_tick * (charged Single w pulses - charge_as_one w pulses)
    ≤ coarseness own * charge_as_one w pulses
own_share rate k measure w n pulses is even =
    share_by w (own_weights rate k) n pulses (own_ratio rate k measure w is) even
