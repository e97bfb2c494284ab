use Rattle.offset_rules.proofs.Named.{changes_have_their_date}
use Rattle.offset_rules.proofs.calendar_laws.changes_have_their_date.Goals as goal

pub returns : goal.returns
returns c = changes_have_their_date
