use Rattle.std.proofs.Common.{ℕ, ◌*◌, ◌+◌, ◌∙◌, ◌≡◌, ◌≤◌, ap, arith, rules, sym}
use Rattle.meter_states.specs.Common.{CoreTrip, Meterage, Mode, Weights, charge_at, charge_of, charges_of}
use Rattle.meter_states.specs.Common.{largest_amount, modulus_of, opening_of, saved, weights_in_force}
use Rattle.meter_states.proofs.{Charges.{charge-at, charge-most, steps-most}, Trips.{hired-saved}}
use Rattle.meter_states.proofs.trip.add_hired.Goals as goal

pub returns-clause-saved : goal.returns-clause-saved
returns-clause-saved c = λ s t x is by e.
    let modulus : c.modulus.result ≡ modulus_of s = c.modulus.ensures.setting s is.tariff in
    let charged : c.charge.result ≡ charge_at s x c.args.pulses =
    c.charge.ensures.charge
    ∙ ap (λ (mode : Mode). charge_of mode c.args.weights c.args.pulses) is.secured.mode
    ∙ ap (λ (w : Weights). charge_of s.mode w c.args.pulses) by
    ∙ ap (λ (k : ℕ). charge_of s.mode (weights_in_force s.tariff k x) c.args.pulses) is.tariff.constant
    ∙ charge-at s c.args.tables.now x c.args.pulses is.tariff in
    let before : c.args.trip.now.meterage
    ≡ saved (record { cover = t.opening.cover; above = t.opening.above; modulus = c.modulus.result }) (charges_of s t) =
    ap (λ (x : CoreTrip). x.meterage) e ∙ ap (λ (n : ℕ).
    saved (record { cover = t.opening.cover; above = t.opening.above; modulus = n }) (charges_of s t)) (sym modulus) in
    let after = c.add_charge.ensures.sum t.opening.cover t.opening.above (charges_of s t) before in
    hired-saved s t c.args.pulses x c.args.trip.now c.add_charge.new.meterage e
    (after
    ∙ ap (λ (n : ℕ). saved (record { cover = t.opening.cover; above = t.opening.above; modulus = n })
    (charges_of s t + c.charge.result)) modulus
    ∙ ap (λ (n : ℕ). saved (opening_of s t) (charges_of s t + n)) charged)

pub add_charge-requires-clause-steps : goal.add_charge-requires-clause-steps
add_charge-requires-clause-steps c =
    let p = c.args.tables.now in
    let fit = c.modulus.ensures.fit in
    let most : c.charge.result ≤ 40001000000 * p.measure = rw c.charge.ensures.charge (charge-most _ c.args.weights
    c.args.pulses p.measure c.requires.pulses c.requires.weights.pulse_units c.requires.weights.tick_units) in
    let filled = steps-most c.args.trip.now.meterage.rest c.charge.result c.args.trip.now.meterage.cover_left p.step
    p.measure fit.step.0 fit.measure.0 c.requires.range.meterage.rest most in
    rw c.modulus.ensures.value (omega (arith, filled, c.requires.range.meterage.steps, c.requires.range.ticks))

pub returns-clause-range : goal.returns-clause-range
returns-clause-range c =
    let p = c.args.tables.now in
    let fit = c.modulus.ensures.fit in
    let range = c.requires.range in
    let most : c.charge.result ≤ 40001000000 * p.measure = rw c.charge.ensures.charge (charge-most _ c.args.weights
    c.args.pulses p.measure c.requires.pulses c.requires.weights.pulse_units c.requires.weights.tick_units) in
    let filled = steps-most c.args.trip.now.meterage.rest c.charge.result c.args.trip.now.meterage.cover_left p.step
    p.measure fit.step.0 fit.measure.0 range.meterage.rest most in
    let steps = rw c.modulus.ensures.value at (ap (λ (m : Meterage). m.steps_full) c.add_charge.ensures.exact) in
    let cover : c.add_charge.new.meterage.cover_left ≤ largest_amount * p.measure =
    omega (arith, c.add_charge.ensures.cover, range.meterage.cover) in
    let full : c.add_charge.new.meterage.steps_full ≤ 41000000000 * (c.args.trip.now.ticks + 1) =
    omega (arith, filled, steps, range.meterage.steps) in
    let rest = rw c.modulus.ensures.value at c.add_charge.ensures.rest in
    search rules
