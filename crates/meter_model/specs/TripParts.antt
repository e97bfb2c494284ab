-- Rules: the parts that events add to a trip, and how long a trip lasts.
use Rattle.std.specs.Prelude.{[], ◌++◌, ◌∷◌, ◌≡◌, List, Some, sum}
use Rattle.{taxi_units.specs.declared.event.Event.TheVariants.{Down, Tick}, meter_model.specs.Setting.{Setting}}
use Rattle.meter_model.specs.{Common.{Event, Hired, Operating, Stopped}, Step.{step}}
use Rattle.meter_model.specs.{Interval.{context_of}, Meter.{Meter}, Trip.{InHired, InStopped, MeterTrip, Part, Rest}}

-- a meter is on a trip if there is one
pub record IsOnTrip (m : Meter) : Type 0 where
  pub trip : MeterTrip
  pub has : m.trip ≡ Some trip

-- a trip lasts over events if the meter is on one before each of them
abbrev pub Lasts : Setting → List Event → Meter → Type 0
Lasts s [] m = Unit {0}
Lasts s (event ∷ events) m = IsOnTrip m × Lasts s events (step s event m).next

-- the interval that a tick ends is a part of the trip: in Hired with the context of its own beginning, and in Stopped
abbrev pub interval_in : Setting → Operating → Meter → List Part
interval_in s Hired m = InHired (sum m.taken) (context_of s m) ∷ []
interval_in s Stopped m = InStopped (sum m.taken) ∷ []
interval_in s operating m = []

-- the pulses of the interval that a drop of the supply leaves unfinished are a part of the trip, in Hired and Stopped
abbrev pub rest_in : Operating → Meter → List Part
rest_in Hired m = Rest (sum m.taken) ∷ []
rest_in Stopped m = Rest (sum m.taken) ∷ []
rest_in operating m = []

-- an event adds to a trip the interval that it ends or leaves unfinished, and nothing if it is of another kind
abbrev pub parts_by : Setting → Event → Meter → List Part
parts_by s Tick m = interval_in s m.operating m
parts_by s Down m = rest_in m.operating m
parts_by s event m = []

-- events add to a trip the parts that each of them adds, in order
abbrev pub parts_over : Setting → List Event → Meter → List Part
parts_over s [] m = []
parts_over s (event ∷ events) m = parts_by s event m ++ parts_over s events (step s event m).next
