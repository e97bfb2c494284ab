-- What tables have of their setting.
use Rattle.std.proofs.{Common.{ℕ, ◌*◌, ◌<◌, ◌∙◌, ◌≡◌, ◌≤◌, ap, arith, sym}, Math.Nat.{mul-pos}}
use Rattle.{tariff_check.specs.Measure.{measure_of}, tariff_compile.specs.Tables.{IsFit}}
use Rattle.meter_model.specs.Setting.{rounding_of, unit_of}
use Rattle.meter_states.specs.{Common.{Setting, SoundTariff, TableParts, modulus_of}, Setting.{IsTariffOf}}

pub unit-is : (s : Setting) (p : TableParts) → IsTariffOf s p → p.measure ≡ unit_of s
unit-is s p is =
    ap (λ (q : TableParts). q.measure) is.compiled.parts ∙ ap (λ (k : ℕ). k * measure_of is.tree.lines) is.constant
    ∙ ap (λ (t : SoundTariff). s.constant * t.measure) (sym is.parts)

pub step-is : (s : Setting) (p : TableParts) → IsTariffOf s p → p.step ≡ s.tariff.step.0
step-is s p is =
    ap (λ (q : TableParts). q.step) is.compiled.parts ∙ ap (λ (t : SoundTariff). t.step.0) (sym is.parts)

pub rounding-is : (s : Setting) (p : TableParts) → IsTariffOf s p → p.rounding ≡ rounding_of s
rounding-is s p is =
    ap (λ (q : TableParts). q.rounding) is.compiled.parts ∙ ap (λ (t : SoundTariff). t.step.1) (sym is.parts)

pub decimals-is : (s : Setting) (p : TableParts) → IsTariffOf s p → p.decimals ≡ s.tariff.decimals
decimals-is s p is =
    ap (λ (q : TableParts). q.decimals) is.compiled.parts ∙ ap (λ (t : SoundTariff). t.decimals) (sym is.parts)

-- what a display step takes, by the tables
pub modulus-is : (s : Setting) (p : TableParts) → IsTariffOf s p → p.step * p.measure ≡ modulus_of s
modulus-is s p is =
    ap (λ (n : ℕ). n * p.measure) (step-is s p is) ∙ ap (λ (n : ℕ). s.tariff.step.0 * n) (unit-is s p is)

-- a display step takes more than what is left of it
pub modulus-above : (s : Setting) (p : TableParts) (rest : ℕ) → IsTariffOf s p → rest < p.step * p.measure
    → 0 < modulus_of s
modulus-above s p rest is below = omega (arith, below, modulus-is s p is)

-- a display step takes something
pub modulus-some : (s : Setting) (p : TableParts) → IsTariffOf s p → IsFit p → 0 < modulus_of s
modulus-some s p is fit =
    let step : 0 < s.tariff.step.0 = omega (arith, step-is s p is, fit.step.0) in
    let unit : 0 < unit_of s = omega (arith, unit-is s p is, fit.measure.0) in
    mul-pos step unit

pub product-some : {a b : ℕ} → 0 < a → 0 < b → 1 ≤ a * b
product-some a b = mul-pos a b
