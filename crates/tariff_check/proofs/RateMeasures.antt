-- The common measure is a multiple of both measures of the rate in force.
use Rattle.{std.specs.{List.{flat_map}, Option.{unwrap_or}}, tariff_check.specs.Faults.{IsSound}}
use Rattle.std.proofs.Common.{[], ℕ, ◌*◌, ◌/◌, ◌<◌, ◌∷◌, ◌≡◌, List, Option, ap, arith, get_or, length, subst, suc, sym}
use Rattle.std.proofs.{Common.{zero}, lemmas.List.Elements.{All-cons, All-head, All-nil, All-tail}}
use Rattle.tariff_check.specs.{Common.{Context, Tree}, Parts.{RateNumbers, rate_part, rates_of}, SoundTariff.{sound_of}}
use Rattle.tariff_check.{specs.Measure.{IsMultipleOfAll, measure_of}, proofs.DefaultLines.{choice_always, default_rate}}
use Rattle.tariff_check.{specs.SoundLookups.{rate_in_force}, proofs.CommonMeasure.{least_of_some, sound_measures}}

-- a multiple of all measures of some rates is one of both measures of each
of_each : (m : ℕ) (rs : List RateNumbers)
    → IsMultipleOfAll (flat_map (λ (r : RateNumbers). r.b ∷ r.e ∷ []) rs) m → (place : ℕ) (d : RateNumbers)
    → place < length rs → IsMultipleOfAll ((get_or rs place d).b ∷ (get_or rs place d).e ∷ []) m
of_each m [] all place d within = absurd (omega arith)
of_each m (r ∷ rs) all zero d within =
    let P : ℕ → Type 0 = λ n. m / n * n ≡ m in
    let rest = flat_map (λ (r' : RateNumbers). r'.b ∷ r'.e ∷ []) rs in
    let behind = All-tail P r.b (r.e ∷ rest) all in
    All-cons P r.b (r.e ∷ []) (All-head P r.b (r.e ∷ rest) all)
    (All-cons P r.e [] (All-head P r.e rest behind) (All-nil P))
of_each m (r ∷ rs) all (suc place) d within =
    let P : ℕ → Type 0 = λ n. m / n * n ≡ m in
    let rest = flat_map (λ (r' : RateNumbers). r'.b ∷ r'.e ∷ []) rs in
    of_each m rs (All-tail P r.e rest (All-tail P r.b (r.e ∷ rest) all)) place d (omega (arith, within))

pub of_rate_in_force : (t : Tree) (x : Context) → IsSound t
    → let r = rate_in_force (sound_of t) x in IsMultipleOfAll (r.b ∷ r.e ∷ []) (measure_of t.lines)
of_rate_in_force t x sound =
    let m = measure_of t.lines in
    let found = choice_always rate_part t x (default_rate t sound) in
    let none : RateNumbers = record { a = 0; b = 0; c = 0; e = 0 } in
    let here = get_or (rates_of t.lines) found.0 none in
    let same : rate_in_force (sound_of t) x ≡ here =
    ap (λ (o : Option ℕ). get_or (rates_of t.lines) (unwrap_or o 0) none) found.1 in
    subst (λ (r : RateNumbers). IsMultipleOfAll (r.b ∷ r.e ∷ []) m) (sym same)
    (of_each m (rates_of t.lines) (least_of_some _ (sound_measures t sound)).multiple found.0 none found.2)
