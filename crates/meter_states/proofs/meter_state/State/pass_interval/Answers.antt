use Rattle.std.proofs.Common.{◌∙◌, arith, subst}
use Rattle.{meter_model.specs.Trip.{InStopped}, meter_states.{specs.Common.{Operating}, proofs.Trips.{interval-taken}}}
use Rattle.meter_states.specs.Lawful.{HasTrip}
use Rattle.meter_states.proofs.Powered.{powered-gated, pulses-below, trip-beside, trip-in, trip-taken}
use Rattle.meter_states.proofs.meter_state.State.pass_interval.Goals as goal

pub add_stopped-requires : goal.add_stopped-requires
add_stopped-requires c =
    let beside = trip-beside c.self.view_is c.in-Some.is c.requires.lawful.1 in
    record {
      pulses = c.take-pulses.ensures.most;
      few = pulses-below beside c.requires.lawful.1.number.1;
      short = beside.range.ticks;
    }

pub returns-clause-lawful : goal.returns-clause-lawful
returns-clause-lawful c = λ tables on.
    let beside = trip-beside c.self.view_is c.in-Some.is on in
    let counts = c.add_stopped.ensures.counts in
    powered-gated c.take-pulses.new.self (omega (arith, c.take-pulses.ensures.empty))
    (trip-taken c.self.view_is c.in-Some.is c.add_stopped.ensures.started
    (record {
      range = c.add_stopped.ensures.range tables beside.range;
      pulses = omega (arith, beside.pulses, counts.0, counts.1, c.take-pulses.ensures.most);
    }) on)

pub returns-clause-state : goal.returns-clause-state
returns-clause-state c = λ s m stands.
    interval-taken s m _ InStopped c.take-pulses.result c.take-pulses.new.self c.in-Some.trip c.add_stopped.new.trip
    (c.self.view_is ∙ stands) c.in-Some.is c.take-pulses.ensures.count c.take-pulses.ensures.empty
    (c.add_stopped.ensures.saved s)

pub returns-in_default : goal.returns-in_default
returns-in_default c = absurd (subst (λ (o : Operating). HasTrip o c.args.self.now.trip) c.requires.on
    c.requires.lawful.1.on (trip-in c.self.view_is c.in_default.is))
