use Rattle.std.proofs.{Common.{arith}, lemmas.Grind.{common_steps}}
use Rattle.meter_states.proofs.Powered.{amid-closes, between-amid, pulses-below, trip-beside}
use Rattle.meter_states.proofs.meter_state.State.charge_interval.Goals as goal

pub weights-weights-requires-clause-lawful : goal.weights-weights-requires-clause-lawful
weights-weights-requires-clause-lawful g c = amid-closes (between-amid c.requires.lawful)

pub weights-weights-requires-clause-cache : goal.weights-weights-requires-clause-cache
weights-weights-requires-clause-cache g c = c.requires.cache

pub add_hired-requires : goal.add_hired-requires
add_hired-requires g c =
    let range = trip-beside c.self.view_is c.in-Some.is c.requires.lawful in
    record {
      pulses = c.take-pulses.ensures.most;
      weights = c.weights-weights.ensures.fit;
      few = pulses-below range c.requires.lawful.number.1;
      range = range.range;
    }

pub returns-clause-cache : goal.returns-clause-cache
returns-clause-cache g c = c.weights-weights.ensures.cache

pub returns-clause-steps : goal.returns-clause-steps
returns-clause-steps g c = c.weights-weights.ensures.steps

pub returns-clause-state : goal.returns-clause-state
returns-clause-state g c = grind (arith, common_steps) steps 4000000
