use Rattle.std.proofs.Common.{◌∙◌, arith}
use Rattle.{meter_model.specs.Trip.{Rest}, meter_states.proofs.Trips.{interval-taken}}
use Rattle.meter_states.proofs.Powered.{powered-gated, pulses-below, trip-beside, trip-in, trip-taken}
use Rattle.meter_states.proofs.meter_state.State.leave_trip.Goals as goal

pub add_rest-requires-clause-pulses : goal.add_rest-requires-clause-pulses
add_rest-requires-clause-pulses c = c.take-pulses.ensures.most

pub add_rest-requires-clause-few : goal.add_rest-requires-clause-few
add_rest-requires-clause-few c =
    pulses-below (trip-beside c.self.view_is c.in-Some.is c.requires.lawful.1) c.requires.lawful.1.number.1

pub returns-clause-lawful : goal.returns-clause-lawful
returns-clause-lawful c = λ tables on.
    let beside = trip-beside c.self.view_is c.in-Some.is on in
    let counts = c.add_rest.ensures.counts in
    powered-gated c.take-pulses.new.self (omega (arith, c.take-pulses.ensures.empty))
    (trip-taken c.self.view_is c.in-Some.is c.add_rest.ensures.started
    (record {
      range = c.add_rest.ensures.range tables beside.range;
      pulses = omega (arith, beside.pulses, counts.0, counts.1, c.take-pulses.ensures.most);
    }) on)

pub returns-clause-state : goal.returns-clause-state
returns-clause-state c = λ s m stands.
    interval-taken s m _ Rest c.take-pulses.result c.take-pulses.new.self c.in-Some.trip c.add_rest.new.trip
    (c.self.view_is ∙ stands) c.in-Some.is c.take-pulses.ensures.count c.take-pulses.ensures.empty
    (c.add_rest.ensures.saved s)

pub returns-in_default : goal.returns-in_default
returns-in_default c = absurd (c.requires.trip (trip-in c.self.view_is c.in_default.is))
