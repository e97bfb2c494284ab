use Rattle.{std.proofs.{Common.{arith}, lemmas.Grind.{common_steps}}, tariff_compare.proofs.Ranges.{range_more}}
use Rattle.tariff_compare.proofs.grid.numbers_to.Goals as goal

pub loop-before-preserved : goal.loop-before-preserved
loop-before-preserved c = grind (arith, common_steps, range_more c.loop-before.before)
