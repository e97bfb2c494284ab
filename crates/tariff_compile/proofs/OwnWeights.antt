-- The weights of a rate are its own, if the common measure is a multiple of both of its measures.
use Rattle.{std.{specs.Option.{unwrap_or}, proofs.lemmas.List.{get_or-map}}, drive_modes.specs.Speed.{AreWeightsOf}}
use Rattle.std.proofs.Common.{[], ℕ, ◌*◌, ◌/◌, ◌∙◌, ◌∷◌, ◌≡◌, Option, ap, get_or, subst, sym}
use Rattle.std.proofs.{Math.Nat.{mul_assoc, mul_comm, mul_left_comm}, lemmas.List.Elements.{All-head, All-tail}}
use Rattle.tariff_check.specs.{Measure.{IsMultipleOfAll}, SoundLookups.{rate_in_force}}
use Rattle.tariff_check.proofs.Laws.{lines_that_hold_are_there-rate, measures_are_least-in_force}
use Rattle.tariff_compile.specs.Common.{Context, IsSound, RateNumbers, Tree, Weights, measure_of, rates_of, sound_of}
use Rattle.tariff_compile.specs.Tables.{all_weights, own_rate, rate_by, weights_of}

-- what pulses and ticks weigh, times the rate's own measures
scaled_pulse : (a b k q : ℕ) → 10000 * a * q * (b * k) ≡ k * (q * b) * (10000 * a)
scaled_pulse a b k q = simp (mul_assoc, mul_comm, mul_left_comm)

scaled_tick : (c e k q : ℕ) → c * k * q * e ≡ k * (q * e) * c
scaled_tick c e k q = simp (mul_assoc, mul_comm, mul_left_comm)

pub own_weights : (k common : ℕ) (r : RateNumbers) → IsMultipleOfAll (r.b ∷ r.e ∷ []) common
    → AreWeightsOf (own_rate r) k (k * common) (weights_of k common r)
own_weights k common r all =
    let P : ℕ → Type 0 = λ n. common / n * n ≡ common in
    let first : common / r.b * r.b ≡ common = All-head P r.b (r.e ∷ []) all in
    let second : common / r.e * r.e ≡ common = All-head P r.e [] (All-tail P r.b (r.e ∷ []) all) in
    record {
      per_pulse = scaled_pulse r.a r.b k (common / r.b) ∙ ap (λ (n : ℕ). k * n * (10000 * r.a)) first;
      per_tick = scaled_tick r.c r.e k (common / r.e) ∙ ap (λ (n : ℕ). k * n * r.c) second;
    }

-- the weights in force are those of the rate in force
pub weights_of_rate : (t : Tree) (k : ℕ) (x : Context) → IsSound t
    → rate_by t k x ≡ weights_of k (measure_of t.lines) (rate_in_force (sound_of t) x)
weights_of_rate t k x sound =
    let found = lines_that_hold_are_there-rate t x sound in
    let none : RateNumbers = record { a = 0; b = 0; c = 0; e = 0 } in
    let rate : rate_in_force (sound_of t) x ≡ get_or (rates_of t.lines) found.0 none =
    ap (λ (o : Option ℕ). get_or (rates_of t.lines) (unwrap_or o 0) none) found.1 in
    ap (λ (o : Option ℕ). get_or (all_weights t k) (unwrap_or o 0) (record { per_pulse = 0; per_tick = 0 })) found.1
    ∙ (get_or-map (weights_of k (measure_of t.lines)) (rates_of t.lines) found.0 none
    (record { per_pulse = 0; per_tick = 0 }) found.2
    ∙ ap (weights_of k (measure_of t.lines)) (sym rate))

pub weights_in_force_own : (t : Tree) (k : ℕ) (x : Context) → IsSound t
    → AreWeightsOf (own_rate (rate_in_force (sound_of t) x)) k (k * measure_of t.lines) (rate_by t k x)
weights_in_force_own t k x sound =
    let r = rate_in_force (sound_of t) x in
    subst (λ (w : Weights). AreWeightsOf (own_rate r) k (k * measure_of t.lines) w) (sym (weights_of_rate t k x sound))
    (own_weights k (measure_of t.lines) r (measures_are_least-in_force t x sound))
