use Rattle.meter_states.proofs.Stages.{commits-step, commits-whole}
use Rattle.meter_states.proofs.receipt_laws.the_store_has_what_the_acts_commit.Goals as goal

pub returns-clause-event : goal.returns-clause-event
returns-clause-event c = λ s event m. (commits-step s event m).store

pub returns-clause-run : goal.returns-clause-run
returns-clause-run c = λ s durable events. (commits-whole s durable events).store
