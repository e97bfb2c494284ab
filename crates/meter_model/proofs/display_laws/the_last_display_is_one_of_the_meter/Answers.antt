use Rattle.meter_model.proofs.LastDisplays.{last-run, last-step}
use Rattle.meter_model.proofs.display_laws.the_last_display_is_one_of_the_meter.Goals as goal

pub returns-clause-opens : goal.returns-clause-opens
returns-clause-opens c = λ s durable. tt

pub returns-clause-step : goal.returns-clause-step
returns-clause-step c = last-step

pub returns-clause-run : goal.returns-clause-run
returns-clause-run c = last-run
