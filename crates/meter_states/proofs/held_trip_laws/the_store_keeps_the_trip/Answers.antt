use Rattle.meter_model.proofs.Laws.{begins, kept-run, kept-step, kept-whole}
use Rattle.meter_states.proofs.HeldFits.{fits-setting}
use Rattle.meter_states.proofs.held_trip_laws.the_store_keeps_the_trip.Goals as goal

pub returns : goal.returns
returns c = record {
  begins = λ s durable fits. begins s durable.hold fits;
  step = kept-step;
  run = kept-run;
  whole = kept-whole;
  fits = fits-setting;
}
