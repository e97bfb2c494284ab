-- A trip that fits the tables fits their setting.
use Rattle.std.proofs.Common.{[], ℕ, ◌*◌, ◌+◌, ◌<◌, ◌∙◌, ◌∷◌, ◌≡◌, List, Option, ap, arith, length, refl, rules, subst}
use Rattle.meter_states.specs.Common.{FitsSetting, Setting, Supplement, TableParts, Trip, amount_in, amounts_from}
use Rattle.meter_states.{specs.Common.{supplement_numbered}, proofs.TableSupplements.{supplement-of-setting}}
use Rattle.meter_states.specs.Fits.{Fits}
use Rattle.meter_states.{specs.{Setting.{IsTariffOf}, Supplements.{supplement_in}}, proofs.Settings.{step-is, unit-is}}

amounts-same : (f g : ℕ → Option Supplement) (first : ℕ) (counts : List ℕ) → ((n : ℕ) → f n ≡ g n)
    → amounts_from f first counts ≡ amounts_from g first counts
amounts-same f g first [] same = refl
amounts-same f g first (count ∷ counts) same =
    ap (λ (o : Option Supplement). count * amount_in o + amounts_from f (first + 1) counts) (same first)
    ∙ ap (λ (n : ℕ). count * amount_in (g first) + n) (amounts-same f g (first + 1) counts same)

pub fits-setting : (s : Setting) (p : TableParts) (trip : Trip) → IsTariffOf s p → Fits p trip → length trip.extras ≡ 16
    → FitsSetting s trip
fits-setting s p trip is fits long =
    let rest : trip.meterage.rest < p.step * p.measure = omega (arith, fits.all) in
    let amounts : trip.extras_sum ≡ amounts_from (supplement_in p) 1 trip.extras = search rules in
    let step = ap (λ (n : ℕ). n * p.measure) (step-is s p is) in
    let unit = ap (λ (n : ℕ). s.tariff.step.0 * n) (unit-is s p is) in
    record {
      rest = subst (λ (n : ℕ). trip.meterage.rest < n) (step ∙ unit) rest;
      extras = long;
      extras_sum = amounts ∙ amounts-same (supplement_in p) (supplement_numbered s.tariff.supplements) 1
          trip.extras (λ n. supplement-of-setting s p n is);
    }
