use Rattle.std.proofs.Common.{ℕ, ◌+◌, ◌∙◌, ◌≡◌, None, Option, Some, ap, arith, subst, sym}
use Rattle.{tariff_compile.proofs.Laws.{tables_are_fit}, meter_states.specs.{Acts.{StayLawful}, Lawful.{IsTripInRange}}}
use Rattle.meter_states.specs.{Common.{ForHire, MeterTrip, longest_trip, trip_closed}, Core.{ComesToOutcome, CoreData}}
use Rattle.meter_states.{specs.Stages.{MayEnter}, proofs.{Outcomes.{trip-saved}, Powered.{some-there}}}
use Rattle.meter_states.proofs.meter_state.State.close.Goals as goal

pub returns-in-Some-clause-stage : goal.returns-in-Some-clause-stage
returns-in-Some-clause-stage g c = record {
  ranges = subst (λ (n : ℕ). StayLawful c.args.tables.now n c.args.acts.now.items c.close_trip.new.acts.items)
      (ap (λ (p : CoreData). p.number) c.self.view_is) c.close_trip.ensures.ranges;
  follows = λ s m is st.
      let opened = c.self.view_is ∙ st in
      let has = trip-saved s m.trip c.in-Some.trip (sym (ap (λ (p : CoreData). p.trip) opened) ∙ c.in-Some.is) in
      let start = ap (λ (p : CoreData). record p { operating = ForHire; trip = None }) opened in
      subst (λ (trip : Option MeterTrip). ComesToOutcome s c.close_trip.new.self c.args.acts.now.items
      c.close_trip.new.acts.items (trip_closed s c.args.closing.kind c.args.closing.finish trip
      (record m { operating = ForHire; trip = None }))) (sym has.1)
      (c.close_trip.ensures.follows s (record m { operating = ForHire; trip = None }) has.0 is has.2 start);
}

pub close_trip-requires-clause-trip : goal.close_trip-requires-clause-trip
close_trip-requires-clause-trip g c =
    let tables = c.args.tables.now in
    let trip = c.in-Some.trip in
    let on = c.requires.lawful in
    let has : c.args.self.now.trip ≡ Some trip = sym (ap (λ (p : CoreData). p.trip) c.self.view_is) ∙ c.in-Some.is in
    let fit = tables_are_fit tables on.compiled in
    subst (λ (p : CoreData). MayEnter tables (record p { operating = ForHire; trip = None }) trip) (sym c.self.view_is)
    (record {
      range = subst (IsTripInRange tables (c.args.self.now.number + 1) longest_trip) has on.trip;
      number = on.held (some-there trip has);
      position = (on.position.0, omega (arith, on.position.1, fit.positions.1));
    })
