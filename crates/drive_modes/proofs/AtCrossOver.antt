-- The cross-over speed reaches the bound of even speeds.
use Rattle.std.{specs.List.{All, sum_by}, proofs.lemmas.List.{length-replicate}}
use Rattle.std.proofs.Common.{ℕ, ◌%◌, ◌*◌, ◌++◌, ◌+◌, ◌-◌, ◌/◌, ◌<◌, ◌≡◌, ◌⊎◌, ap, arith, inl, inr, length}
use Rattle.std.proofs.{Common.{length-append, refl, replicate, sum}, lemmas.List.Elements.{All-append, All-replicate}}
use Rattle.std.proofs.lemmas.{List.{Folds.{sum_by-replicate}, Sums.{sum_by-append}}, Nat.{div-add-mod', mod_below}}
use Rattle.drive_modes.{specs.{Charge.{charge_of}, Common.{Single, Weights}}, proofs.Crossover.{charge-greater}}
use Rattle.drive_modes.specs.Speeds.{IsEvenSpeed, at_cross_over, charge_as_one, charged, coarseness}

-- the sum of a function over so many intervals with n pulses, and so many with n + 1
sum_of_both : (f : ℕ → ℕ) (v u n : ℕ) → sum_by f (replicate v n ++ replicate u (n + 1)) ≡ v * f n + u * f (n + 1)
sum_of_both f v u n =
    let parts = sum_by-append f (replicate v n) (replicate u (n + 1)) in
    omega (arith, parts, sum_by-replicate f v n, sum_by-replicate f u (n + 1))

pub cross_over_even : (w : Weights) → 0 < w.per_pulse → IsEvenSpeed (w.per_tick / w.per_pulse) (at_cross_over w)
cross_over_even w some =
    let n = w.per_tick / w.per_pulse in
    let u = w.per_tick % w.per_pulse in
    let is = λ (p : ℕ). (p ≡ n) ⊎ (p ≡ n + 1) in
    let fewer : All is (replicate (w.per_pulse - u) n) = All-replicate is (w.per_pulse - u) n (inl refl) in
    let more : All is (replicate u (n + 1)) = All-replicate is u (n + 1) (inr refl) in
    All-append is (replicate (w.per_pulse - u) n) (replicate u (n + 1)) fewer more

pub cross_over_count : (w : Weights) → 0 < w.per_pulse → length (at_cross_over w) ≡ w.per_pulse
cross_over_count w some =
    let n = w.per_tick / w.per_pulse in
    let u = w.per_tick % w.per_pulse in
    let below = mod_below w.per_tick w.per_pulse some in
    let both = length-append (replicate (w.per_pulse - u) n) (replicate u (n + 1)) in
    omega (arith, below, both, length-replicate (w.per_pulse - u) n, length-replicate u (n + 1))

-- w intervals have t pulses there, if a pulse weighs w and an interval t
cross_over_pulses : (w : Weights) → 0 < w.per_pulse → sum (at_cross_over w) ≡ w.per_tick
cross_over_pulses w some =
    let n = w.per_tick / w.per_pulse in
    let u = w.per_tick % w.per_pulse in
    let split : u + (w.per_pulse - u) ≡ w.per_pulse = omega (arith, mod_below w.per_tick w.per_pulse some) in
    let all = sum_of_both (λ (p : ℕ). p) (w.per_pulse - u) u n in
    omega (arith, all, ap (λ (z : ℕ). z * n) split, div-add-mod' w.per_tick w.per_pulse)

pub cross_over_as_one : (w : Weights) → 0 < w.per_pulse
    → charge_as_one w (at_cross_over w) ≡ w.per_pulse * w.per_tick
cross_over_as_one w some =
    let distance = ap (λ (z : ℕ). z * w.per_pulse) (cross_over_pulses w some) in
    let time = ap (λ (z : ℕ). z * w.per_tick) (cross_over_count w some) in
    omega (arith, distance, time)

-- w * t and u * v more, if v intervals are charged t, and u intervals t + v
charges_there : (w t u v : ℕ) → u + v ≡ w → v * t + u * (t + v) ≡ w * t + u * v
charges_there w t u v split = omega (arith, ap (λ (z : ℕ). z * t) split)

pub cross_over_reached : (w : Weights) → 0 < w.per_pulse
    → charged Single w (at_cross_over w) ≡ charge_as_one w (at_cross_over w) + coarseness w
cross_over_reached w some =
    let n = w.per_tick / w.per_pulse in
    let u = w.per_tick % w.per_pulse in
    let v = w.per_pulse - u in
    let split : u + v ≡ w.per_pulse = omega (arith, mod_below w.per_tick w.per_pulse some) in
    let whole = div-add-mod' w.per_tick w.per_pulse in
    let low : charge_of Single w n ≡ w.per_tick = omega (arith, whole, charge-greater w n) in
    let high : charge_of Single w (n + 1) ≡ w.per_tick + v = omega (arith, split, whole, charge-greater w (n + 1)) in
    let all = sum_of_both (charge_of Single w) v u n in
    let lows = ap (λ (c : ℕ). v * c) low in
    let highs = ap (λ (c : ℕ). u * c) high in
    omega (arith, all, lows, highs, charges_there w.per_pulse w.per_tick u v split, cross_over_as_one w some)
