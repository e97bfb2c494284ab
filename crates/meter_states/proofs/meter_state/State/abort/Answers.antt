use Rattle.std.proofs.Common.{ℕ, ◌∙◌, ◌≡◌, None, Option, ap, subst, sym}
use Rattle.meter_states.{specs.Acts.{StayLawful}, proofs.Outcomes.{follows-then, quiet-follows, trip-saved}}
use Rattle.meter_states.specs.Common.{Aborted, ForHire, Meter, Operating, closed, quiet, trip_closed}
use Rattle.meter_states.specs.Core.{ComesToOutcome, CoreData, core_of}
use Rattle.meter_states.proofs.SupplyStages.{aborted-closes, held-second}
use Rattle.meter_model.specs.Trip as model
use Rattle.meter_states.proofs.meter_state.State.abort.Goals as goal

pub returns-clause-stage : goal.returns-clause-stage
returns-clause-stage g c = record {
  ranges = subst (λ (n : ℕ). StayLawful c.args.tables.now n c.args.acts.now.items c.close_trip.new.acts.items)
      (ap (λ (q : CoreData). q.number) c.self.view_is) c.close_trip.ensures.ranges;
  follows = λ s m is saved st.
      let held = c.args.held.now in
      let begin = c.args.acts.now.items in
      let acts = c.close_trip.new.acts.items in
      let hire : m.operating ≡ ForHire = sym (ap (λ (q : CoreData). q.operating) st) ∙ c.requires.hire in
      let n : Meter = record m { operating = ForHire; trip = None; position = held.position } in
      let start = ap (λ (q : CoreData). record q { position = held.position }) (c.self.view_is ∙ st)
      ∙ ap (λ (o : Operating). core_of s (record m { operating = o; trip = None; position = held.position })) hire in
      let has = trip-saved s m.trip (model.core_trip_in held) (sym saved) in
      let first = c.close_trip.ensures.follows s n has.0 is (c.core_trip.ensures ∙ has.2) start in
      let whole = subst (λ (o : Option model.MeterTrip). ComesToOutcome s c.close_trip.new.self begin acts
      (trip_closed s Aborted held.saved o n)) (sym has.1) first in
      let after = (trip_closed s Aborted held.saved m.trip n).next in
      follows-then s c.close_trip.new.self _ begin acts acts (closed s Aborted held.saved
      (record m { position = held.position })) (λ (k : Meter). quiet (record k { position = 1; zone = 1 })) whole
      (quiet-follows s _ acts (record after { position = 1; zone = 1 })
      (ap (λ (q : CoreData). record q { position = 1; zone = 1 }) (c.self-2.view_is ∙ whole.state)));
}

pub close_trip-requires-clause-closing : goal.close_trip-requires-clause-closing
close_trip-requires-clause-closing g c = record { kind = aborted-closes; finish = held-second c.requires.held.range }
