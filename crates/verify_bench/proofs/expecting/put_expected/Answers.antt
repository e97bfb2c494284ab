use Rattle.std.proofs.{Common.{arith}, lemmas.Grind.{common_steps}}
use Rattle.verify_bench.proofs.expecting.put_expected.Goals as goal

pub loop-hiring-preserved : goal.loop-hiring-preserved
loop-hiring-preserved c = grind (arith, common_steps)

pub returns : goal.returns
returns c = grind (arith, common_steps)
