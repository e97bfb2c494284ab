-- Rules: a run, how it opens, its events one after the other, and the supply drop at its end.
use Rattle.std.specs.Prelude.{[], ◌∷◌, List, None, option_map}
use Rattle.{taxi_units.specs.Time.{first_second}, totals_record.specs.States.{first_state}}
use Rattle.meter_model.specs.{Common.{Act, Durable, Event, Off, Operating}, Meter.{◌>>=◌, Meter, Outcome, quiet}}
use Rattle.meter_model.specs.{Setting.{Setting}, Step.{step}, Supply.{supply_dropped}, Trip.{trip_of}}

-- a meter is opened before the supply first comes, with what the store has: off, at the first second, with the held
-- trip
abbrev pub opened : Setting → Durable → Meter
opened s durable = record {
  operating = Off;
  clock = first_second;
  began = first_second;
  taken = [];
  latch = None;
  position = 1;
  zone = 1;
  roaming = [];
  shown = None;
  trip = option_map (trip_of s) durable.hold;
  durable = durable;
}

-- a list of events comes to what each event in its turn comes to, one after the other
abbrev pub run : Setting → List Event → Meter → Outcome
run s [] m = quiet m
run s (event ∷ events) m = step s event m >>= run s events

-- the meter after events is the one that they lead to from a new store
abbrev pub meter_after : Setting → List Event → Meter
meter_after s events = (run s events (opened s first_state)).next

-- two lists of events come to what the first comes to, and then the second
abbrev pub run_both : Setting → (first second : List Event) → Meter → Outcome
run_both s first second m = run s first m >>= run s second

-- a run ends in an operating position with a supply drop if the meter is powered, and with nothing if it is off
abbrev pub ended_in : Setting → Operating → Meter → Outcome
ended_in s Off m = quiet m
ended_in s operating m = supply_dropped s m

-- a run ends in the meter's operating position with a supply drop if the meter is powered, and with nothing if it is
-- off
abbrev pub ended : Setting → Meter → Outcome
ended s m = ended_in s m.operating m

-- a whole run opens with what the store has, has its events, and ends
abbrev pub whole_run : Setting → Durable → List Event → Outcome
whole_run s durable events = run s events (opened s durable) >>= ended s

-- the acts of a whole run are all that the meter does in it, in order
abbrev pub actions_of : Setting → Durable → List Event → List Act
actions_of s durable events = (whole_run s durable events).acts
