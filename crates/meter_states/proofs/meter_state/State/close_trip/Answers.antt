use Rattle.{meter_model.specs.Meter.{entered, printed}, meter_states.specs.Common.{Meter, entry_of_trip, receipt_of}}
use Rattle.meter_states.proofs.Outcomes.{follows-then}
use Rattle.meter_states.proofs.meter_state.State.close_trip.Goals as goal

pub returns-clause-ranges : goal.returns-clause-ranges
returns-clause-ranges g c =
    λ before. c.print_receipt.ensures.ranges c.args.self.now.number (c.enter_trip.ensures.ranges before)

pub returns-clause-follows : goal.returns-clause-follows
returns-clause-follows g c = λ s m t is e st.
    let first = c.enter_trip.ensures.follows s m t is.tariff e st in
    let entry = entered (entry_of_trip s c.args.closing.kind m.position t) m in
    let second = c.print_receipt.ensures.follows s entry.next t is e first.state in
    follows-then s c.enter_trip.new.self c.enter_trip.new.self c.args.acts.now.items c.enter_trip.new.acts.items
    c.print_receipt.new.acts.items entry
    (λ (n : Meter).
    printed (receipt_of s c.args.closing.kind c.args.closing.finish n.position t n.durable.number) n) first second
