-- Runs of two meters that stand alike, and of one meter, which stands alike to itself.
use Rattle.std.proofs.Common.{[], ◌∷◌, ◌≤◌, All, List, None, Option, Some, arith, option_map, refl, subst}
use Rattle.{std.proofs.lemmas.List.Elements.{All-head, All-tail}, meter_model.specs.Run.{ended, ended_in}}
use Rattle.{meter_model.specs.Trip.{trip_of}, same_tariffs.specs.Alike.{AreHoldsAlike, AreStoresAlike, with_trips}}
use Rattle.same_tariffs.specs.Common.{Durable, Event, IsTimely, Meter, MeterTrip, Off, Operating, Setting, Trip}
use Rattle.same_tariffs.{specs.Common.{last_tick, opened, run, step, ticks_so_far, whole_run}, proofs.Agreement.{Agree}}
use Rattle.same_tariffs.{specs.Reached.{HoldGoesOn, IsWithinReach}, proofs.Stages.{dropped-alike, step-alike}}
use Rattle.same_tariffs.proofs.MetersAlike.{ComeAlike, IsBeside, StandAlike, by-trips, quiet-alike, stands, then-alike}
use Rattle.same_tariffs.proofs.Trips.{opened-both}

ticks-held : (s : Setting) (hold : Option Trip) → HoldGoesOn s.tariff hold
    → ticks_so_far (option_map (trip_of s) hold) ≤ last_tick
ticks-held s None on = omega arith
ticks-held s (Some trip) on = omega (arith, on.ticks)

module _ {s t : Setting} where
  -- an event, and then others
  event-then : (event : Event) (events : List Event) (m n : Meter) → IsTimely event → StandAlike s t last_tick m n
      → ((o p : Meter) → StandAlike s t last_tick o p → ComeAlike s t last_tick (run s events o) (run t events p))
      → ComeAlike s t last_tick (run s (event ∷ events) m) (run t (event ∷ events) n)
  event-then event events m n timely x others =
      let first = step-alike event timely x in
      let both = then-alike first (others (step s event m).next (step t event n).next first.next) in both

  run-alike : (events : List Event) (m n : Meter) → All IsTimely events → StandAlike s t last_tick m n
      → ComeAlike s t last_tick (run s events m) (run t events n)
  run-alike [] m n timely x = record { next = x; acts = tt }
  run-alike (event ∷ events) m n timely x =
      event-then event events m n (All-head IsTimely event events timely) x
      (λ o p y. run-alike events o p (All-tail IsTimely event events timely) y)

  ended-by : (operating : Operating) (m : Meter) (trip : Option MeterTrip) (hold : Option Trip)
      → IsBeside s t last_tick m trip hold
      → ComeAlike s t last_tick (ended_in s operating m) (ended_in t operating (with_trips trip hold m))
  ended-by Off m trip hold x = quiet-alike m trip hold x
  ended-by operating m trip hold x = dropped-alike (stands m trip hold x)

  ended-alike : {m n : Meter} → StandAlike s t last_tick m n → ComeAlike s t last_tick (ended s m) (ended t n)
  ended-alike x = by-trips x (ended s) (ended t) (λ m trip hold y. ended-by m.operating m trip hold y)

  opened-alike : (d e : Durable) → Agree s t → HoldGoesOn s.tariff d.hold → AreStoresAlike s t d e
      → StandAlike s t last_tick (opened s d) (opened t e)
  opened-alike d e agree on same =
      subst (λ (x : Durable). StandAlike s t last_tick (opened s d) (opened t x)) same.others (record {
        beside = record {
          agree = agree;
          trips = opened-both s t d.hold e.hold agree same.hold;
          holds = same.hold;
          placed = record {
            set = agree.first;
            clock_in = (omega arith, omega arith);
            began_in = (omega arith, omega arith);
          };
          goes_on = on;
          ticks = ticks-held s d.hold on;
        };
        others = refl;
      })

  -- a whole run is alike over stores that are
  pub whole-alike : (d e : Durable) (events : List Event) → Agree s t → All IsTimely events
      → HoldGoesOn s.tariff d.hold → AreStoresAlike s t d e
      → ComeAlike s t last_tick (whole_run s d events) (whole_run t e events)
  whole-alike d e events agree timely on same =
      let first = run-alike events (opened s d) (opened t e) timely (opened-alike d e agree on same) in
      let both = then-alike first (ended-alike first.next) in both

-- ---- one meter

holds-self : (s : Setting) (hold : Option Trip) → AreHoldsAlike s s hold hold
holds-self s None = tt
holds-self s (Some trip) = record {
  meterage = record { cover = record { scaled = refl }; steps = refl; rest = record { scaled = refl } };
  others = refl;
}

stores-self : (s : Setting) (d : Durable) → AreStoresAlike s s d d
stores-self s d = record { hold = holds-self s d.hold; others = refl }

-- a run leaves a meter within reach
pub run-within : (s : Setting) (d : Durable) (events : List Event) → Agree s s → All IsTimely events
    → HoldGoesOn s.tariff d.hold → IsWithinReach s (run s events (opened s d)).next
run-within s d events agree timely on =
    let o = opened s d in
    let x = (run-alike events o o timely (opened-alike d d agree on (stores-self s d))).next.beside in
    record { placed = x.placed; hold = x.goes_on; ticks = x.ticks }

-- and what its store holds goes on
pub whole-goes_on : (s : Setting) (d : Durable) (events : List Event) → Agree s s → All IsTimely events
    → HoldGoesOn s.tariff d.hold → HoldGoesOn s.tariff (whole_run s d events).next.durable.hold
whole-goes_on s d events agree timely on =
    (whole-alike d d events agree timely on (stores-self s d)).next.beside.goes_on
