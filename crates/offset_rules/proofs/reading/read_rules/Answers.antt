use Rattle.{std.proofs.Common.{subst, sym}, offset_rules.{specs.RulesText.{IsReadAs}, proofs.TextsRead.{rules_are}}}
use Rattle.offset_rules.proofs.reading.read_rules.Goals as goal

pub returns : goal.returns
returns c = record {
  answer = c.read_text.ensures;
  meaning = subst (IsReadAs c.args.text.now) (sym c.read_text.ensures) (rules_are c.args.text.now);
}
