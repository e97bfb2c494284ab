use Rattle.std.proofs.Common.{◌∙◌, ap}
use Rattle.meter_states.specs.Common.{CoreTrip, Rounding, charges_of, modulus_of, opening_of, steps_above, steps_of}
use Rattle.meter_states.proofs.{Meterages.{steps-below, steps-few}, Settings.{modulus-above, rounding-is}}
use Rattle.meter_states.proofs.trip.display_steps.Goals as goal

pub steps-requires : goal.steps-requires
steps-requires c = record { steps = steps-few c.requires.range.ticks c.requires.range.meterage.steps }

pub returns : goal.returns
returns c = record {
  value = λ s t is saved.
      let some = modulus-above s c.args.tables.now c.args.trip.now.meterage.rest is c.requires.range.meterage.rest in
      c.steps.ensures.sum t.opening.cover t.opening.above (modulus_of s) (charges_of s t) some
      (ap (λ (x : CoreTrip). x.meterage) saved)
      ∙ ap (λ (r : Rounding). steps_above r (opening_of s t) (charges_of s t))
      (c.rounding.ensures ∙ rounding-is s c.args.tables.now is);
  exact = c.steps.ensures.exact ∙ ap (λ (r : Rounding). steps_of r c.args.trip.now.meterage) c.rounding.ensures;
  most = steps-below c.steps.result c.rounding.result c.args.trip.now.meterage c.steps.ensures.exact
      (steps-few c.requires.range.ticks c.requires.range.meterage.steps);
}
