use Rattle.seal_record.proofs.Laws.{seals_are_read_by_their_table}
use Rattle.seal_record.proofs.seal_laws.seals_are_read_by_their_table.Goals as goal

pub returns : goal.returns
returns c = seals_are_read_by_their_table
