use Rattle.std.proofs.{Common.{arith}, lemmas.Grind.{common_steps}}
use Rattle.tariff_check.proofs.CountedChoices.{choice_line_put, kept_put, none_kept}
use Rattle.tariff_check.proofs.resolving.resolved.Goals as goal

pub loop-place-init : goal.loop-place-init
loop-place-init c = record {
  holidays = grind (arith, common_steps);
  supplements = grind (arith, common_steps);
  choices = none_kept c.new-3.result c.args.lines.now c.new-3.ensures;
  choice_lines = grind (arith, common_steps);
}

pub loop-place-preserved : goal.loop-place-preserved
loop-place-preserved c = record {
  holidays = grind (arith, common_steps);
  supplements = grind (arith, common_steps);
  choices = kept_put c.loop-place.parts.choices c.add.new.self.choices c.args.lines.now c.loop-place.place
      c.index-lines-place.result c.loop-place-test.true c.index-lines-place.is c.in_ok-add.ensures.choices
      c.loop-place.invariant.choices;
  choice_lines = choice_line_put c.loop-place.parts c.args.lines.now c.loop-place.place c.index-lines-place.result
      c.add.new.self.choice_lines.items c.loop-place-test.true c.index-lines-place.is c.loop-place.invariant.choices
      c.in_ok-add.ensures.choice_lines c.loop-place.invariant.choice_lines;
}

pub returns : goal.returns
returns c = grind (arith, common_steps)
