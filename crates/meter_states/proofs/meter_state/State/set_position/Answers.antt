use Rattle.std.proofs.{Common.{arith}, lemmas.Grind.{common_steps}}
use Rattle.meter_states.proofs.meter_state.State.set_position.Goals as goal

pub returns-then-n-positions : goal.returns-then-n-positions
returns-then-n-positions c = grind (arith, common_steps) steps 4000000

pub returns-else-n-positions : goal.returns-else-n-positions
returns-else-n-positions c = grind (arith, common_steps) steps 4000000
