use Rattle.std.proofs.{Common.{ℕ, ◌*◌, ◌^◌, ◌∙◌, ap, arith}, lemmas.Nat.{mul-le}}
use Rattle.meter_states.proofs.Settings.{modulus-is, product-some}
use Rattle.meter_states.proofs.lookups.modulus.Goals as goal

pub overflow_mul-result : goal.overflow_mul-result
overflow_mul-result c =
    let step = mul-le c.from.result c.measure.result (10 ^ 6) (2 * 10 ^ 23)
    (rw c.from.ensures c.step.ensures.most) c.measure.ensures.most in
    omega (arith, step)

pub returns-clause-value : goal.returns-clause-value
returns-clause-value c = ap (λ (n : ℕ). n * c.measure.result) (c.from.ensures ∙ c.step.ensures.value)
    ∙ ap (λ (n : ℕ). c.args.tables.now.step * n) c.measure.ensures.value

pub returns-clause-setting : goal.returns-clause-setting
returns-clause-setting c = λ s is. returns-clause-value c ∙ modulus-is s c.args.tables.now is

pub returns-clause-least : goal.returns-clause-least
returns-clause-least c = product-some (rw c.from.ensures c.step.ensures.positive) c.measure.ensures.positive

pub returns-clause-most : goal.returns-clause-most
returns-clause-most c = mul-le c.from.result c.measure.result (10 ^ 6) (2 * 10 ^ 23)
    (rw c.from.ensures c.step.ensures.most) c.measure.ensures.most

pub returns-clause-fit : goal.returns-clause-fit
returns-clause-fit c = c.measure.ensures.fit
