use Rattle.totals_record.proofs.CommittedStates.{follows}
use Rattle.totals_record.proofs.state_laws.changes_add_up.Goals as goal

pub returns : goal.returns
returns c = follows
