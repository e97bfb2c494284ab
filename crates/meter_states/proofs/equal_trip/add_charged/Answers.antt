use Rattle.std.proofs.Common.{◌*◌, ◌+◌, ◌<◌, ◌≤◌, arith, rules}
use Rattle.meter_states.{specs.Common.{largest_amount}, proofs.EqualIntervals.{unfilled-below}}
use Rattle.meter_states.proofs.equal_trip.add_charged.Goals as goal

pub returns-clause-range : goal.returns-clause-range
returns-clause-range c = λ tables range spare.
    let below = unfilled-below tables.rounding
    (tables.step * tables.measure) c.args.charge c.args.count c.args.trip.now.meterage range.meterage.rest spare in
    let trip = c.args.trip.now in
    let cover : c.saturating_sub-trip.result ≤ largest_amount * tables.measure =
    omega (arith, c.saturating_sub-trip.ensures, range.meterage.cover) in
    let steps : trip.meterage.steps_full ≤ 41000000000 * (trip.ticks + c.args.count) =
    omega (arith, range.meterage.steps) in
    let rest : trip.meterage.rest + c.saturating_sub.result < tables.step * tables.measure =
    omega (arith, c.saturating_sub.ensures, below) in
    search rules
