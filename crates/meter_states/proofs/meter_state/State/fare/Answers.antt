use Rattle.std.proofs.Common.{◌∙◌, ap, sym}
use Rattle.meter_states.specs.{Common.{fare_shown}, Core.{CoreData}, Equals.{fare_by}}
use Rattle.meter_states.proofs.{Outcomes.{fare-none, trip-saved}, Powered.{powered-longer, trip-beside}}
use Rattle.meter_states.proofs.meter_state.State.fare.Goals as goal

pub fare-requires : goal.fare-requires
fare-requires c =
    let beside = trip-beside c.self.view_is c.in-Some.is (powered-longer c.requires.lawful) in
    record { range = beside.range }

pub returns-in-None-clause-value : goal.returns-in-None-clause-value
returns-in-None-clause-value c =
    λ s m is e. fare-none s m.trip (sym (ap (λ (p : CoreData). p.trip) (c.self.view_is ∙ e)) ∙ c.in-None.is)

pub returns-in-None-clause-exact : goal.returns-in-None-clause-exact
returns-in-None-clause-exact c =
    ap (fare_by c.args.tables.now) (sym c.in-None.is ∙ ap (λ (p : CoreData). p.trip) c.self.view_is)

pub returns-in-Some-clause-value : goal.returns-in-Some-clause-value
returns-in-Some-clause-value c = λ s m is e.
    let has =
    trip-saved s m.trip c.in-Some.trip (sym (ap (λ (p : CoreData). p.trip) (c.self.view_is ∙ e)) ∙ c.in-Some.is) in
    c.fare.ensures.value s has.0 is has.2 ∙ sym (ap (fare_shown s) has.1)

pub returns-in-Some-clause-exact : goal.returns-in-Some-clause-exact
returns-in-Some-clause-exact c = c.fare.ensures.exact
    ∙ ap (fare_by c.args.tables.now) (sym c.in-Some.is ∙ ap (λ (p : CoreData). p.trip) c.self.view_is)
