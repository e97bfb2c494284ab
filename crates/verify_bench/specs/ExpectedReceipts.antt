-- Rules: what a drive should come to, which is the receipts of the meter's run with the ticks of their trips.
use Rattle.std.specs.Prelude.{[], ℕ, ◌++◌, ◌∷◌, List, map}
use Rattle.verify_bench.specs.Common.{Act, Event, Expected, Meter, Receipt, Setting, ended, first_state}
use Rattle.verify_bench.specs.{Common.{interval_counted, opened, step, ticks_so_far}, Receipts.{receipts_in}}
use Rattle.taxi_units.specs.declared.event.Event.TheVariants as events

-- a hiring has the kind, the fare and the distance of its receipt, with the ticks of the trip
abbrev pub hiring_of : (ticks : ℕ) → Receipt → Expected
hiring_of ticks receipt =
    record { kind = receipt.kind; fare = receipt.fare; hired_mm = receipt.hired_mm; ticks = ticks }

-- the hirings among acts are one for each of their receipts
abbrev pub hirings_in : (ticks : ℕ) → List Act → List Expected
hirings_in ticks acts = map (hiring_of ticks) (receipts_in acts)

-- a trip that an event closes has the ticks that it had before; if the event is a tick, the interval that it ends
-- counts too
abbrev pub ticks_at : Setting → Event → Meter → ℕ
ticks_at s events.Tick m = ticks_so_far (interval_counted s m).next.trip
ticks_at s (events.Up second) m = ticks_so_far m.trip
ticks_at s events.Down m = ticks_so_far m.trip
ticks_at s (events.Pulses pulses) m = ticks_so_far m.trip
ticks_at s (events.Clock second) m = ticks_so_far m.trip
ticks_at s (events.Key key) m = ticks_so_far m.trip

-- a list of events comes to the hirings of its receipts, event by event, and of the supply drop at its end
unfoldable pub hirings_from : Setting → List Event → Meter → List Expected
hirings_from s [] m = hirings_in (ticks_so_far m.trip) (ended s m).acts
hirings_from s (event ∷ events) m =
    hirings_in (ticks_at s event m) (step s event m).acts ++ hirings_from s events (step s event m).next

-- a drive should come to the hirings of its events from the meter that is opened on an empty store
abbrev pub expected_of : Setting → List Event → List Expected
expected_of s events = hirings_from s events (opened s first_state)

-- a hiring is untimed if its ticks are set to 0, as a receipt has none
abbrev pub untimed : Expected → Expected
untimed expected = record expected { ticks = 0 }
