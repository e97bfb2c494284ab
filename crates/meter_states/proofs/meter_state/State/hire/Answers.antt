use Rattle.std.proofs.{Common.{arith}, lemmas.Grind.{common_steps}}
use Rattle.meter_states.proofs.meter_state.State.hire.Goals as goal

pub returns-clause-stage : goal.returns-clause-stage
returns-clause-stage g c = grind (arith, common_steps) steps 4000000
