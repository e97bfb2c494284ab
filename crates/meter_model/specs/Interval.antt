-- Rules: the measuring interval, its pulses, the context of its beginning, and what it becomes at its end.
use Rattle.std.specs.Prelude.{[], ℕ, ◌++◌, ◌-◌, ◌∷◌, List, None, Option, Some, if◌then◌else◌, min, nat_lt, option_map}
use Rattle.{std.specs.Prelude.{sum}, taxi_units.specs.declared.event.Why.TheVariants.{TooFast}}
use Rattle.{interval_clock.specs.declared.local_time.LocalTime.{LocalTime}, tariff_check.specs.SoundLookups.{has_date}}
use Rattle.meter_model.specs.Common.{Context, ForHire, Hired, Off, Operating, Refuse, Stopped, hirings_end}
use Rattle.meter_model.specs.{Meter.{Meter, Outcome, quiet}, Setting.{Setting, local_at}}
use Rattle.meter_model.specs.Trip.{InHired, InStopped, MeterTrip, Part, Rest, pulses_of, ticks_of, with_part}

-- the running interval has room for as many pulses as are left of 2,000 behind those that it has taken
abbrev pub room_of : Meter → ℕ
room_of m = 2000 - sum m.taken

-- the running interval takes the pulses that it has room for, and the others are refused as too fast
abbrev pub pulses_taken : ℕ → Meter → Outcome
pulses_taken n m = record {
  next = record m { taken = m.taken ++ min n (room_of m) ∷ [] };
  acts = if nat_lt 0 (n - room_of m) then Refuse (TooFast (n - room_of m)) ∷ [] else [];
}

-- the pulses of a trip so far are those of its opening and its parts, and 0 without a trip
abbrev pub pulses_so_far : Option MeterTrip → ℕ
pulses_so_far None = 0
pulses_so_far (Some t) = pulses_of t

-- the ticks of a trip so far are those of its opening and its parts, and 0 without a trip
abbrev pub ticks_so_far : Option MeterTrip → ℕ
ticks_so_far None = 0
ticks_so_far (Some t) = ticks_of t

-- the context at a local time is the position and the zone, the weekday, day and minute of that time, whether its date
-- is a holiday, and the pulses and ticks of the trip, 0 without one
abbrev pub context_on : Setting → LocalTime → Meter → Context
context_on s local m = record {
  constant = s.constant;
  position = m.position;
  zone = m.zone;
  weekday = local.weekday;
  month_day = local.month_day;
  holiday = has_date s.tariff.holidays local.year local.month local.date;
  minute = local.minute;
  pulses = pulses_so_far m.trip;
  ticks = ticks_so_far m.trip;
}

-- the context of the running interval is the one at the local time of its beginning
abbrev pub context_of : Setting → Meter → Context
context_of s m = context_on s (local_at s m.began) m

-- the context of the meter now is the one at the local time of the clock's second
abbrev pub context_now : Setting → Meter → Context
context_now s m = context_on s (local_at s m.clock) m

-- a meter with an interval more has it as a part behind those of its trip, and no pulses yet in the next interval
abbrev pub with_interval : Part → Meter → Meter
with_interval part m = record m { taken = []; trip = option_map (with_part part) m.trip }

-- the roaming pulses grow by some pulses if the store takes hirings, and else are the same
abbrev pub roaming_with : (pulses : ℕ) → Meter → List ℕ
roaming_with pulses m = if nat_lt m.durable.number hirings_end then m.roaming ++ pulses ∷ [] else m.roaming

-- a meter with more roaming pulses has them if the store takes hirings, and no pulses yet in the next interval
abbrev pub with_roaming : (pulses : ℕ) → Meter → Meter
with_roaming pulses m = record m { taken = []; roaming = roaming_with pulses m }

-- the running interval ends in an operating position: its pulses roam in For Hire, it is charged in Hired, and it
-- passes free in Stopped
abbrev pub counted_in : Setting → Operating → (pulses : ℕ) → Meter → Meter
counted_in s Off pulses m = m
counted_in s ForHire pulses m = with_roaming pulses m
counted_in s Hired pulses m = with_interval (InHired pulses (context_of s m)) m
counted_in s Stopped pulses m = with_interval (InStopped pulses) m

-- the running interval of the meter ends in the meter's operating position, and nothing is shown or entered for it
abbrev pub interval_counted : Setting → Meter → Outcome
interval_counted s m = quiet (counted_in s m.operating (sum m.taken) m)

-- the running interval is left unfinished in an operating position: it is not charged and counts no tick, and its
-- pulses roam in For Hire
abbrev pub left_in : Operating → (pulses : ℕ) → Meter → Meter
left_in Off pulses m = m
left_in ForHire pulses m = with_roaming pulses m
left_in Hired pulses m = with_interval (Rest pulses) m
left_in Stopped pulses m = with_interval (Rest pulses) m

-- a supply drop leaves the meter's running interval unfinished
abbrev pub interval_left : Meter → Outcome
interval_left m = quiet (left_in m.operating (sum m.taken) m)

-- the next interval begins at the clock's second
abbrev pub interval_begun : Meter → Outcome
interval_begun m = quiet (record m { began = m.clock })
