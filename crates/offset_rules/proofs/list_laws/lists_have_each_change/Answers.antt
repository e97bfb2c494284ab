use Rattle.offset_rules.proofs.Members.{lists_have_each_change}
use Rattle.offset_rules.proofs.list_laws.lists_have_each_change.Goals as goal

pub returns : goal.returns
returns c = lists_have_each_change
