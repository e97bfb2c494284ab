use Rattle.std.proofs.{Common.{arith}, lemmas.Grind.{common_steps}}
use Rattle.tariff_compare.proofs.costs.all_rates.Goals as goal

pub loop-rate-preserved : goal.loop-rate-preserved
loop-rate-preserved c = grind (arith, common_steps)

pub returns : goal.returns
returns c = grind (arith, common_steps)
