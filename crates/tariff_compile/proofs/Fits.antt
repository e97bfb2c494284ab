-- How large the weights of a sound rate are.
use Rattle.std.proofs.{Common.{ℕ, ◌*◌, ◌/◌, ◌^◌, ◌≡◌, ◌≤◌, arith}, Math.Nat.{div-le_self, mul_assoc}}
use Rattle.{std.proofs.lemmas.Nat.{mul-le}, tariff_compile.specs.Common.{IsSoundRate, RateNumbers}}
use Rattle.tariff_compile.specs.Tables.{AreFit, weights_of}

-- with a constant of 500 to 200,000 and a common measure of at most 10^18
pub weights_of-fit : (k measure : ℕ) (r : RateNumbers) → (500 ≤ k) × (k ≤ 200000) → measure ≤ 10 ^ 18 → IsSoundRate r
    → AreFit (k * measure) (weights_of k measure r)
weights_of-fit k measure r constant most sound =
    let pulse : 10000 * r.a * (measure / r.b) ≤ 10 ^ 10 * measure = mul-le (10000 * r.a) (measure / r.b)
    (10 ^ 10) measure (omega (arith, sound.distance_amount)) (div-le_self measure r.b) in
    let tick : r.c * k * (measure / r.e) ≤ 10 ^ 6 * k * measure = mul-le (r.c * k) (measure / r.e) (10 ^ 6 * k) measure
    (mul-le r.c k (10 ^ 6) k sound.time_amount (omega arith)) (div-le_self measure r.e) in
    let least : 500 * measure ≤ k * measure = mul-le 500 measure k measure constant.0 (omega arith) in
    let greatest : k * measure ≤ 200000 * 10 ^ 18 = mul-le k measure 200000 (10 ^ 18) constant.1 most in
    let apart : 10 ^ 6 * k * measure ≡ 10 ^ 6 * (k * measure) = mul_assoc (10 ^ 6) k measure in
    record {
      per_pulse = omega arith;
      per_tick = omega arith;
      pulse_units = omega arith;
      tick_units = omega arith;
    }
