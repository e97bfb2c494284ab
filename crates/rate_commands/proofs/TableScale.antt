-- The weights that the tables of a tariff have of a rate are in scale with the rate's own.
use Rattle.std.{specs.{List.{All, flat_map, slice_get}, Option.{option_map}}, proofs.lemmas.Nat.{mul-le}}
use Rattle.std.specs.Prelude.{◌↔◌, Some}
use Rattle.std.proofs.Common.{[], ℕ, ◌*◌, ◌+◌, ◌/◌, ◌<◌, ◌∙◌, ◌∷◌, ◌≡◌, ◌≤◌, List, ap, arith, map, refl, subst, suc}
use Rattle.std.proofs.{Common.{sym, zero}, lemmas.{List.Elements.{All-head, All-tail}, Option.{slice_get-map}}}
use Rattle.tariff_check.{specs.Faults.{IsSound}, proofs.Laws.{measures_are_least-least, measures_are_least-sound}}
use Rattle.tariff_check.specs.{Kinds.{rates_of}, Measure.{measure_of, measures_of}}
use Rattle.tariff_compile.specs.Tables.{tables_of, weights_of}
use Rattle.rate_commands.specs.{Common.{RateNumbers, Tree, Weights}, Fineness.{StaysWithin, excess_of, weights_under}}
use Rattle.rate_commands.proofs.Excess.{AreCharged, IsInScale, excess_scaled}

-- b and e divide the common measure m
scale_of : (k m : ℕ) (r : RateNumbers) → 0 < m → 0 < r.b → 0 < r.e → m / r.b * r.b ≡ m → m / r.e * r.e ≡ m
    → IsInScale (r.b * r.e) m (weights_of k m r) (weights_under k r)
scale_of k m r more some_b some_e by_b by_e =
    let both : 1 * 1 ≤ r.b * r.e = mul-le 1 1 r.b r.e (omega arith) (omega arith) in
    record {
      some = omega (arith, both);
      more = more;
      pulse = omega (arith, ap (λ (x : ℕ). 10000 * r.a * r.e * x) by_b);
      tick = omega (arith, ap (λ (x : ℕ). r.c * k * r.b * x) by_e);
    }

-- what holds of all measures holds of those of each rate
measures_at : (P : ℕ → Type 0) (rates : List RateNumbers) (place : ℕ) (r : RateNumbers)
    → slice_get rates place ≡ Some r → All P (flat_map (λ (x : RateNumbers). x.b ∷ x.e ∷ []) rates) → P r.b × P r.e
measures_at P [] place r there all = absurd cc
measures_at P (x ∷ rates) zero r there all =
    let same : x ≡ r = cc in
    let rest = flat_map (λ (x : RateNumbers). x.b ∷ x.e ∷ []) rates in
    subst (λ (y : RateNumbers). P y.b × P y.e) same (
      All-head P x.b (x.e ∷ rest) all,
      All-head P x.e rest (All-tail P x.b (x.e ∷ rest) all),
    )
measures_at P (x ∷ rates) (suc place) r there all =
    let rest = flat_map (λ (x : RateNumbers). x.b ∷ x.e ∷ []) rates in
    measures_at P rates place r there (All-tail P x.e rest (All-tail P x.b (x.e ∷ rest) all))

-- so the tables' weights of each rate of a sound tariff are in scale with its own
pub table_scale : (t : Tree) (k place : ℕ) (r : RateNumbers) → IsSound t → slice_get (rates_of t.lines) place ≡ Some r
    → IsInScale (r.b * r.e) (measure_of t.lines) (weights_of k (measure_of t.lines) r) (weights_under k r)
table_scale t k place r sound there =
    let some = measures_are_least-sound t sound in
    let least = measures_are_least-least t.lines some in
    let m = measure_of t.lines in
    let above = measures_at (λ (n : ℕ). 0 < n) (rates_of t.lines) place r there some in
    let divides = measures_at (λ (n : ℕ). m / n * n ≡ m) (rates_of t.lines) place r there least.multiple in
    scale_of k m r least.positive above.0 above.1 divides.0 divides.1

pub table_excess : (t : Tree) (k place excess : ℕ) (r : RateNumbers) (w : Weights) → IsSound t
    → slice_get (rates_of t.lines) place ≡ Some r → slice_get (tables_of t k).weights place ≡ Some w
    → ((own : Weights) → AreCharged own) → (excess_of (weights_under k r) ≤ excess) ↔ StaysWithin excess w
table_excess t k place excess r w sound there weights charged =
    let m = measure_of t.lines in
    let made : Some (weights_of k m r) ≡ Some w =
    sym (slice_get-map (weights_of k m) (rates_of t.lines) place ∙ ap (option_map (weights_of k m)) there) ∙ weights in
    let same : weights_of k m r ≡ w = cc in
    subst (λ (v : Weights). (excess_of (weights_under k r) ≤ excess) ↔ StaysWithin excess v) same
    (excess_scaled (r.b * r.e) m excess (weights_of k m r) (weights_under k r) (table_scale t k place r sound there)
    (charged (weights_under k r)))
