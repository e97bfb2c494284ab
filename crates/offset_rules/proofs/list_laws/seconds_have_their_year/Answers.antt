use Rattle.offset_rules.proofs.Bounds.{seconds_have_their_year}
use Rattle.offset_rules.proofs.list_laws.seconds_have_their_year.Goals as goal

pub returns : goal.returns
returns c = seconds_have_their_year
