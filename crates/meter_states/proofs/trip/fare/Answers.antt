use Rattle.std.proofs.Common.{ℕ, ◌∙◌, ap}
use Rattle.meter_states.specs.Common.{CoreTrip, Rounding, charges_of, fare_by_fees, modulus_of, opening_of, steps_above}
use Rattle.meter_states.{specs.Common.{steps_of}, proofs.Settings.{modulus-above, rounding-is, step-is}}
use Rattle.meter_states.proofs.Meterages.{steps-few}
use Rattle.meter_states.proofs.trip.fare.Goals as goal

pub shown-requires : goal.shown-requires
shown-requires c = record {
  steps = steps-few c.requires.range.ticks c.requires.range.meterage.steps;
  initial = c.requires.range.others.initial;
  minimum = c.requires.range.others.minimum;
  step = c.step.ensures.most;
}

pub returns : goal.returns
returns c = record {
  value = λ s t is saved.
      let p = c.args.tables.now in
      let some = modulus-above s p c.args.trip.now.meterage.rest is c.requires.range.meterage.rest in
      c.shown.ensures.sum t.opening.cover t.opening.above (modulus_of s) (charges_of s t) some
      (ap (λ (x : CoreTrip). x.meterage) saved)
      ∙ ap (λ (x : CoreTrip). fare_by_fees x.fees c.step.result
      (steps_above c.rounding.result (opening_of s t) (charges_of s t))) saved
      ∙ ap (λ (n : ℕ). fare_by_fees t.fees n (steps_above c.rounding.result (opening_of s t) (charges_of s t)))
      (c.step.ensures.value ∙ step-is s p is)
      ∙ ap (λ (r : Rounding). fare_by_fees t.fees s.tariff.step.0
      (steps_above r (opening_of s t) (charges_of s t))) (c.rounding.ensures ∙ rounding-is s p is);
  exact =
      let trip = c.args.trip.now in
      c.shown.ensures.exact
      ∙ ap (λ (n : ℕ). fare_by_fees trip.fees n (steps_of c.rounding.result trip.meterage)) c.step.ensures.value
      ∙ ap (λ (r : Rounding). fare_by_fees trip.fees c.args.tables.now.step
      (steps_of r trip.meterage)) c.rounding.ensures;
  most = c.shown.ensures.most;
}
