-- Rules: the trips of a drive that were closed, each with the tick that hired it, the event that closed it, and the
-- parts that the events between them added.
use Rattle.std.specs.Prelude.{[], ◌++◌, ◌∷◌, ◌≡◌, List, Some}
use Rattle.meter_model.specs.{Run.{meter_after}, TripParts.{Lasts, parts_over}}
use Rattle.verify_bench.specs.Common.{Down, Event, ForHire, Hire, Meter, MeterTrip, Setting, Tick, run, step}

-- a meter hires at its next tick if it is for hire and the key Hire waits
pub record Hires (m : Meter) : Type 0 where
  pub free : m.operating ≡ ForHire
  pub waits : m.latch ≡ Some Hire

-- a drive, with the drop of the supply at its end, has a trip from the tick at which a meter hires to a later event, if
-- the meter has a trip before that event and before each event between
pub record TripOf (s : Setting) (events : List Event) : Type 0 where
  pub before : List Event
  pub amid : List Event
  pub closing : Event
  pub after : List Event
  pub split : events ++ Down ∷ [] ≡ before ++ Tick ∷ (amid ++ closing ∷ after)
  pub hires : Hires (meter_after s before)
  pub lasts : Lasts s (amid ++ closing ∷ []) (step s Tick (meter_after s before)).next

-- the meter that hires the trip, the one behind that tick, and the one in front of the event that closes the trip
abbrev pub hiring_meter : (s : Setting) (events : List Event) → TripOf s events → Meter
hiring_meter s events of = meter_after s of.before

abbrev pub hired_meter : (s : Setting) (events : List Event) → TripOf s events → Meter
hired_meter s events of = (step s Tick (hiring_meter s events of)).next

abbrev pub closing_meter : (s : Setting) (events : List Event) → TripOf s events → Meter
closing_meter s events of = (run s of.amid (hired_meter s events of)).next

-- a trip is the one that a drive had from one tick to an event if it is the meter's trip in front of that event; it has
-- the parts that all events behind the tick added, and started at the second of the meter that hired it
pub record IsClosedTrip (s : Setting) (events : List Event) (of : TripOf s events) (trip : MeterTrip) : Type 0 where
  pub last : MeterTrip
  pub has : (closing_meter s events of).trip ≡ Some last
  pub same : trip ≡ record last { parts = trip.parts }
  pub parts : trip.parts ≡ parts_over s (of.amid ++ of.closing ∷ []) (hired_meter s events of)
  pub started : trip.started ≡ (hiring_meter s events of).clock
