-- Rules: the supply, what a drop of it leaves, and what its coming finds.
use Rattle.std.specs.Prelude.{[], ℕ, ◌&&◌, ◌+◌, Bool, None, Option, Some, false, if◌then◌else◌, nat_le, nat_lt, sum}
use Rattle.{std.specs.Prelude.{true}, taxi_units.specs.declared.receipt.Kind.TheVariants.{Aborted}}
use Rattle.{taxi_units.specs.Limits.{last_number}, meter_model.specs.{Interval.{interval_left}, Setting.{Setting}}}
use Rattle.meter_model.specs.{ClosedTrip.{closed, roaming_entered}, Meter.{◌>>=◌, Meter, Outcome, held, quiet}}
use Rattle.meter_model.specs.{Common.{ForHire, Hired, Off, Operating, Stopped, Trip}, Trip.{MeterTrip, held_trip}}
use Rattle.meter_model.specs.Display.{shown}

-- the test `is_stopped` is true if an operating position is Stopped
abbrev pub is_stopped : Operating → Bool
is_stopped Off = false
is_stopped ForHire = false
is_stopped Hired = false
is_stopped Stopped = true

-- a trip is held at a supply drop, or closed as aborted if the store takes no held trip
abbrev pub trip_held_or_closed : Setting → MeterTrip → Meter → Outcome
trip_held_or_closed s t m =
    if nat_lt m.durable.number last_number
    then held (held_trip s m.clock (is_stopped m.operating) m.position m.zone t) m
    else closed s Aborted m.clock m

-- at a supply drop the trip is kept, and without one the roaming pulses, if there are any, are entered
abbrev pub held_or_closed : Setting → Option MeterTrip → Meter → Outcome
held_or_closed s None m = if nat_lt 0 (sum m.roaming) then roaming_entered s m else quiet m
held_or_closed s (Some t) m = trip_held_or_closed s t m

-- a meter that is turned off is in Off, and a key that waited is lost
abbrev pub turned_off : Meter → Outcome
turned_off m = quiet (record m { operating = Off; latch = None })

-- a supply drop leaves the interval unfinished, keeps the trip or enters the roaming pulses, and turns the meter off
abbrev pub supply_dropped : Setting → Meter → Outcome
supply_dropped s m = do
  m ← interval_left m
  m ← held_or_closed s m.trip m
  turned_off m

-- a meter that is powered at a second is for hire, at that second, in position 1 and zone 1, with nothing counted or
-- shown
abbrev pub powered : (second : ℕ) → Meter → Meter
powered second m = record m {
  operating = ForHire;
  clock = second;
  began = second;
  taken = [];
  latch = None;
  position = 1;
  zone = 1;
  roaming = [];
  shown = None;
}

-- a held trip goes on in Stopped if it was stopped, and else in Hired
abbrev pub running : (stopped : Bool) → Operating
running true = Stopped
running false = Hired

-- the test `is_within_hold` is true if a second is not before the supply drop, and not later than the hold after it
abbrev pub is_within_hold : Setting → (second : ℕ) → Trip → Bool
is_within_hold s second trip = nat_le trip.saved second && nat_le second (trip.saved + s.hold_time)

-- a held trip is resumed with its operating position, its position and its zone
abbrev pub resumed : Trip → Meter → Outcome
resumed trip m = quiet (record m { operating = running trip.stopped; position = trip.position; zone = trip.zone })

-- a held trip that is aborted is closed at its position and the second of its supply drop, and then the position and
-- the zone are 1
abbrev pub aborted : Setting → Trip → Meter → Outcome
aborted s trip m = do
  m ← closed s Aborted trip.saved (record m { position = trip.position })
  quiet (record m { position = 1; zone = 1 })

-- as the supply comes a held trip is resumed within the hold, and else aborted; without one there is no trip
abbrev pub hold_taken : Setting → (second : ℕ) → Option Trip → Meter → Outcome
hold_taken s second None m = quiet (record m { trip = None })
hold_taken s second (Some trip) m = if is_within_hold s second trip then resumed trip m else aborted s trip m

-- as the supply comes at a second the meter is powered, takes the held trip, and shows its display
abbrev pub supply_came : Setting → (second : ℕ) → Meter → Outcome
supply_came s second m = do
  m ← hold_taken s second m.durable.hold (powered second m)
  shown s m
