use Rattle.totals_record.proofs.EntrySums.{adds_up}
use Rattle.totals_record.proofs.sum_laws.entries_add_up.Goals as goal

pub returns : goal.returns
returns c = adds_up
