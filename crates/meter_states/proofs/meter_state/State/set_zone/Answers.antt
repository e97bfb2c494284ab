use Rattle.std.proofs.{Common.{arith}, lemmas.Grind.{common_steps}}
use Rattle.meter_states.proofs.meter_state.State.set_zone.Goals as goal

pub returns-then-n-zones : goal.returns-then-n-zones
returns-then-n-zones c = grind (arith, common_steps) steps 4000000

pub returns-else-n-zones : goal.returns-else-n-zones
returns-else-n-zones c = grind (arith, common_steps) steps 4000000
