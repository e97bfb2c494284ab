-- Rules: what each event does to the meter.
use Rattle.std.specs.Prelude.{ℕ, None, Option, Some, if◌then◌else◌, nat_le, nat_lt}
use Rattle.taxi_units.specs.{Time.{longest_trip}, declared.event.Why.TheVariants.{ClockBack, Powered}}
use Rattle.meter_model.specs.{ClosedTrip.{closed, roaming_checked}, Meter.{◌>>=◌, Meter, Outcome, quiet, refused}}
use Rattle.meter_model.specs.{Common.{Event, ForHire, Hired, Key, NotNow, Off, Operating, Stopped}, Setting.{Setting}}
use Rattle.meter_model.specs.{Display.{shown}, Interval.{interval_begun, interval_counted, pulses_taken, ticks_so_far}}
use Rattle.meter_model.specs.{Keys.{key_pressed, latched}, Supply.{supply_came, supply_dropped}}
use Rattle.taxi_units.specs.declared.event.Event.TheVariants as events
use Rattle.taxi_units.specs.declared.event.Why.TheVariants as why
use Rattle.taxi_units.specs.declared.receipt.Kind.TheVariants as kinds

-- the key that waits, if one does, is refused, since the trip has expired, and waits no more
abbrev pub latch_refused : Option Key → Meter → Outcome
latch_refused None m = quiet m
latch_refused (Some key) m = refused why.Expired (record m { latch = None })

-- a trip that expires is closed at the clock's second, and the key that waits is refused
abbrev pub expired : Setting → Meter → Outcome
expired s m = do
  m ← closed s kinds.Expired m.clock m
  latch_refused m.latch m

-- at the end of an interval a trip that has reached its longest time expires, and otherwise the key that waits acts
abbrev pub expired_or_pressed : Setting → Meter → Outcome
expired_or_pressed s m = if nat_le longest_trip (ticks_so_far m.trip) then expired s m else key_pressed s m

-- a tick ends the interval, lets the trip expire or the key act, enters many roaming pulses, shows the display, and
-- begins the next interval
abbrev pub ticked : Setting → Meter → Outcome
ticked s m = do
  m ← interval_counted s m
  m ← expired_or_pressed s m
  m ← roaming_checked s m
  m ← shown s m
  interval_begun m

-- a reading of the clock in a trip is refused if it is before the last one, and else accepted
abbrev pub clock_read_in_trip : (second : ℕ) → Meter → Outcome
clock_read_in_trip second m =
    if nat_lt second m.clock then refused (ClockBack m.clock second) m else quiet (record m { clock = second })

-- a reading of the clock is accepted, but in Hired and Stopped refused if it is before the last one
abbrev pub clock_read : Operating → (second : ℕ) → Meter → Outcome
clock_read Hired second m = clock_read_in_trip second m
clock_read Stopped second m = clock_read_in_trip second m
clock_read operating second m = quiet (record m { clock = second })

-- at a powered meter the coming of the supply is refused; a drop of the supply, pulses, a tick, a reading of the clock
-- and a key do what their definitions say
abbrev pub powered_step : Setting → Event → Meter → Outcome
powered_step s (events.Up second) m = refused Powered m
powered_step s events.Down m = supply_dropped s m
powered_step s (events.Pulses n) m = pulses_taken n m
powered_step s events.Tick m = ticked s m
powered_step s (events.Clock second) m = clock_read m.operating second m
powered_step s (events.Key key) m = latched m.latch key m

-- at a meter that is off each event is refused, except the coming of the supply
abbrev pub off_step : Setting → Event → Meter → Outcome
off_step s (events.Up second) m = supply_came s second m
off_step s event m = refused NotNow m

-- an event in the operating position Off is one of a meter that is off, and in each other position it is one of a
-- powered meter
abbrev pub step_in : Setting → Operating → Event → Meter → Outcome
step_in s Off event m = off_step s event m
step_in s ForHire event m = powered_step s event m
step_in s Hired event m = powered_step s event m
step_in s Stopped event m = powered_step s event m

-- what an event comes to is what it does in the meter's operating position
abbrev pub step : Setting → Event → Meter → Outcome
step s event m = step_in s m.operating event m
