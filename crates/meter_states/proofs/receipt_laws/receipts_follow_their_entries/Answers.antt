use Rattle.meter_states.proofs.Stages.{commits-step, commits-whole}
use Rattle.meter_states.proofs.receipt_laws.receipts_follow_their_entries.Goals as goal

pub returns-clause-event : goal.returns-clause-event
returns-clause-event c = λ s event m. (commits-step s event m).pairs

pub returns-clause-run : goal.returns-clause-run
returns-clause-run c = λ s durable events. (commits-whole s durable events).pairs
