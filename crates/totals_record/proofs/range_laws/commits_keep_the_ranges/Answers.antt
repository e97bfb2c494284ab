use Rattle.totals_record.proofs.CommitRanges.{entry_keeps}
use Rattle.totals_record.proofs.range_laws.commits_keep_the_ranges.Goals as goal

pub returns-clause-closed : goal.returns-clause-closed
returns-clause-closed c = entry_keeps
