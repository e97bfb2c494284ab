use Rattle.std.proofs.{Common.{arith}, lemmas.Grind.{common_steps}}
use Rattle.tariff_compare.proofs.uses.uses.Goals as goal

pub loop-choice-preserved : goal.loop-choice-preserved
loop-choice-preserved c = grind (arith, common_steps)

pub returns-clause-value : goal.returns-clause-value
returns-clause-value c = grind (arith, common_steps)

pub use_of-requires-clause-both : goal.use_of-requires-clause-both
use_of-requires-clause-both c = c.requires.both
