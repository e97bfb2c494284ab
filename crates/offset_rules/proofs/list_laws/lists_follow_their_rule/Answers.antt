use Rattle.offset_rules.proofs.{Follows.{lists_follow}, Lawful.{lists_are_lawful}}
use Rattle.offset_rules.proofs.list_laws.lists_follow_their_rule.Goals as goal

pub returns : goal.returns
returns c = record {
  lawful = λ rule from to is asked. let lawful = lists_are_lawful rule from to is asked in (lawful.list, lawful.few);
  follows = lists_follow;
}
