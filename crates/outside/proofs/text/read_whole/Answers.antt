use Rattle.std.proofs.{Common.{arith}, lemmas.Grind.{common_steps, elements}}
use Rattle.outside.proofs.text.read_whole.Goals as goal

pub returns-in_err-count-clause-failed : goal.returns-in_err-count-clause-failed
returns-in_err-count-clause-failed g c = grind (arith, common_steps) steps 2000000

pub returns-in_err-read-clause-failed : goal.returns-in_err-read-clause-failed
returns-in_err-read-clause-failed g c = grind (arith, common_steps) steps 2000000

pub returns-in_default-clause-too_long : goal.returns-in_default-clause-too_long
returns-in_default-clause-too_long g c = grind (arith, elements) steps 2000000
