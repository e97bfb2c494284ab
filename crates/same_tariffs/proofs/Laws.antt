-- The laws of the public empty functions.
use Rattle.{std.proofs.Common.{All, List, ap}, same_tariffs.specs.Alike.{AreOutcomesAlike, AreStoresAlike}}
use Rattle.same_tariffs.specs.{Common.{Durable, Event, IsTimely, Meter, Setting, Tree, whole_run}, Reached.{HoldGoesOn}}
use Rattle.same_tariffs.specs.Same.{AreSameSettings}
use Rattle.same_tariffs.proofs.{MeterContexts.{agree, agree-self}, Runs.{whole-alike, whole-goes_on}}
pub use Rattle.same_tariffs.proofs.Timely.{drives-timely as events_of_drives_are_timely}

pub same_tariffs_run_alike-outcomes : (a b : Tree) (s t : Setting) (d e : Durable) (events : List Event)
    → AreSameSettings a b s t → All IsTimely events → HoldGoesOn s.tariff d.hold → AreStoresAlike s t d e
    → AreOutcomesAlike s t (whole_run s d events) (whole_run t e events)
same_tariffs_run_alike-outcomes a b s t d e events same timely on alike =
    let whole = whole-alike d e events (agree a b s t same) timely on alike in
    let trips = whole.next.beside in
    record {
      next = record { trip = trips.trips; hold = trips.holds; others = whole.next.others };
      acts = whole.acts;
    }

pub same_tariffs_run_alike-stores : (a b : Tree) (s t : Setting) (d e : Durable) (events : List Event)
    → AreSameSettings a b s t → All IsTimely events → HoldGoesOn s.tariff d.hold → AreStoresAlike s t d e
    → AreStoresAlike s t (whole_run s d events).next.durable (whole_run t e events).next.durable
same_tariffs_run_alike-stores a b s t d e events same timely on alike =
    let next = (same_tariffs_run_alike-outcomes a b s t d e events same timely on alike).next in
    record { hold = next.hold; others = ap (λ (m : Meter). m.durable) next.others }

pub same_tariffs_run_alike-goes_on : (a b : Tree) (s t : Setting) (d : Durable) (events : List Event)
    → AreSameSettings a b s t → All IsTimely events → HoldGoesOn s.tariff d.hold
    → HoldGoesOn s.tariff (whole_run s d events).next.durable.hold
same_tariffs_run_alike-goes_on a b s t d events same timely on =
    whole-goes_on s d events (agree-self a s same.one) timely on
