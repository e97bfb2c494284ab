use Rattle.std.proofs.{Common.{ℕ, ◌*◌, ◌<◌, ◌≤◌, ap, arith, rules, subst}, Math.Nat.{mul-le-mul_right}}
use Rattle.meter_states.{specs.Common.{Meterage, largest_amount, modulus_of}, proofs.Trips.{begun-saved}}
use Rattle.meter_states.proofs.{Settings.{modulus-some, product-some}, TableSupplements.{begun-allowed, begun-amounts}}
use Rattle.meter_states.proofs.trip.begun.Goals as goal

pub returns-clause-saved : goal.returns-clause-saved
returns-clause-saved c = λ s is.
    begun-saved s c.args.tables.now c.args.fee c.args.second c.args.roam c.start.result is
    (rw (← c.measure.ensures.value) (c.start.ensures.sum (modulus_of s)
    (modulus-some s c.args.tables.now is c.measure.ensures.fit)))

pub returns-clause-range : goal.returns-clause-range
returns-clause-range c =
    let p = c.args.tables.now in
    let fit = c.measure.ensures.fit in
    let made = c.start.ensures.exact in
    let step : 0 < p.step = omega (arith, fit.step.0) in
    let cover = ap (λ (m : Meterage). m.cover_left) made in
    let most : c.args.fee.covers * c.measure.result ≤ largest_amount * c.measure.result =
    mul-le-mul_right c.measure.result
    c.requires.fee.covers in
    let covered : c.start.result.cover_left ≤ largest_amount * p.measure =
    subst (λ (n : ℕ). c.start.result.cover_left ≤ largest_amount * n) c.measure.ensures.value
    (omega (arith, cover, most)) in
    let steps : c.start.result.steps_full ≤ 41000000000 * 0 =
    omega (arith, ap (λ (m : Meterage). m.steps_full) made) in
    let rest : c.start.result.rest < p.step * p.measure =
    omega (arith, ap (λ (m : Meterage). m.rest) made, product-some step fit.measure.0) in
    let allowed = begun-allowed p in
    let amounts = begun-amounts p in
    search rules
