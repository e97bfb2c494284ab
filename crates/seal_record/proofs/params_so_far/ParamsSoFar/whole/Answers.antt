use Rattle.std.proofs.{Common.{arith}, lemmas.Grind.{common_steps}}
use Rattle.seal_record.proofs.params_so_far.ParamsSoFar.whole.Goals as goal

pub returns-in_err-hold_time : goal.returns-in_err-hold_time
returns-in_err-hold_time c = grind (arith, common_steps)
