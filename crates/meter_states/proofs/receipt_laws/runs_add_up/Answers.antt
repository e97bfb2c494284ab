use Rattle.meter_model.proofs.Laws.{run-append}
use Rattle.meter_states.proofs.receipt_laws.runs_add_up.Goals as goal

pub returns : goal.returns
returns c = run-append
