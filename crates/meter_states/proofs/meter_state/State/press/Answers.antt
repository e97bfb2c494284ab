use Rattle.meter_states.proofs.KeyStages.{pressed-closes, unlatched-ready}
use Rattle.meter_states.proofs.meter_state.State.press.Goals as goal

pub press_key-requires : goal.press_key-requires
press_key-requires g c = record { ready = unlatched-ready c.self.view_is c.requires.ready }

pub returns-in-Some-clause-stage : goal.returns-in-Some-clause-stage
returns-in-Some-clause-stage g c = pressed-closes c.in-Some.key c.self.view_is c.in-Some.is c.press_key.ensures.stage
