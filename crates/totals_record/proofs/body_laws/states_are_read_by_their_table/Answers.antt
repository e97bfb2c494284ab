use Rattle.totals_record.proofs.Laws.{states_are_read_by_their_table}
use Rattle.totals_record.proofs.body_laws.states_are_read_by_their_table.Goals as goal

pub returns : goal.returns
returns c = states_are_read_by_their_table
