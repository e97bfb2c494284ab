use Rattle.std.proofs.{Common.{arith}, lemmas.Grind.{common_steps}}
use Rattle.tariff_calendar.proofs.collecting.in_pulses.Goals as goal

pub loop-decimetres-preserved : goal.loop-decimetres-preserved
loop-decimetres-preserved c = grind (arith, common_steps)

pub returns : goal.returns
returns c = grind (arith, common_steps)
