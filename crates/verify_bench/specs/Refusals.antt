-- For proofs: why an event is refused, told apart by cases. Step, of meter_model, says what each event comes to.
use Rattle.std.specs.Prelude.{ℕ, ◌-◌, None, Option, Some, if◌then◌else◌, nat_le, nat_lt}
use Rattle.taxi_units.specs.declared.event.Why.TheVariants.{AtMost, ClockBack, Ended, KeyWaiting, NoSuch, NotNow}
use Rattle.{taxi_units.specs.declared.event.Why.TheVariants.{Powered}, meter_model.specs.Keys.{act_of}}
use Rattle.{meter_model.specs.declared.key_act.KeyAct.{KeyAct}, verify_bench.specs.Common.{times}}
use Rattle.verify_bench.specs.Common.{Event, ForHire, Hired, Key, Meter, MeterTrip, Off, Operating, Setting, Stopped}
use Rattle.verify_bench.specs.Common.{Supplement, TooFast, Why, hirings_end, is_among, room_of, supplement_numbered}
use Rattle.taxi_units.specs.declared.event.Event.TheVariants as events
use Rattle.meter_model.specs.declared.key_act.KeyAct.TheVariants as key_acts

-- a number is refused that isn't from 1 to the most
abbrev pub number_refusal : (most n : ℕ) → Option Why
number_refusal most n = if is_among most n then None else Some NoSuch

-- a supplement of the tariff is refused that a trip has as often as it may
abbrev pub added_refusal : (n : ℕ) → Supplement → Option MeterTrip → Option Why
added_refusal n supplement None = None
added_refusal n supplement (Some t) = if nat_le supplement.max (times n t.extras) then Some AtMost else None

-- a supplement is refused that the tariff hasn't
abbrev pub extra_refusal : (n : ℕ) → Option Supplement → Option MeterTrip → Option Why
extra_refusal n None trip = Some NoSuch
extra_refusal n (Some supplement) trip = added_refusal n supplement trip

-- what a key does is refused if it can't be done
abbrev pub act_refusal : Setting → KeyAct → Meter → Option Why
act_refusal s key_acts.Hire m = if nat_le hirings_end m.durable.number then Some Ended else None
act_refusal s (key_acts.Move to) m = None
act_refusal s key_acts.Clear m = None
act_refusal s (key_acts.Position n) m = number_refusal s.tariff.positions n
act_refusal s (key_acts.Zone n) m = number_refusal s.tariff.zones n
act_refusal s (key_acts.Extra n) m = extra_refusal n (supplement_numbered s.tariff.supplements n) m.trip
act_refusal s key_acts.Refuse m = Some NotNow

-- a key is refused in an operating position if what it does there is
abbrev pub key_refusal : Setting → Key → Operating → Meter → Option Why
key_refusal s key operating m = act_refusal s (act_of key operating) m

-- the key that waits is refused at a tick, but for the end of a trip's time
abbrev pub latch_refusal : Setting → Option Key → Meter → Option Why
latch_refusal s None m = None
latch_refusal s (Some key) m = key_refusal s key m.operating m

-- pulses are refused for which the interval has no room
abbrev pub pulse_refusal : (n : ℕ) → Meter → Option Why
pulse_refusal n m = if nat_lt 0 (n - room_of m) then Some (TooFast (n - room_of m)) else None

-- a reading of the clock is refused in a trip if it is before the last one
abbrev pub reading_refusal : (second last : ℕ) → Option Why
reading_refusal second last = if nat_lt second last then Some (ClockBack last second) else None

abbrev pub clock_refusal : Operating → (second last : ℕ) → Option Why
clock_refusal Hired second last = reading_refusal second last
clock_refusal Stopped second last = reading_refusal second last
clock_refusal operating second last = None

-- a key is refused if another one waits
abbrev pub waiting_refusal : Option Key → Option Why
waiting_refusal None = None
waiting_refusal (Some key) = Some KeyWaiting

-- what a powered meter refuses
abbrev pub powered_refusal : Setting → Event → Meter → Option Why
powered_refusal s (events.Up second) m = Some Powered
powered_refusal s events.Down m = None
powered_refusal s (events.Pulses n) m = pulse_refusal n m
powered_refusal s events.Tick m = latch_refusal s m.latch m
powered_refusal s (events.Clock second) m = clock_refusal m.operating second m.clock
powered_refusal s (events.Key key) m = waiting_refusal m.latch

-- in Off all is refused but the coming of the supply
abbrev pub off_refusal : Event → Option Why
off_refusal (events.Up second) = None
off_refusal event = Some NotNow

-- why an event is refused in an operating position
abbrev pub refusal_in : Setting → Operating → Event → Meter → Option Why
refusal_in s Off event m = off_refusal event
refusal_in s ForHire event m = powered_refusal s event m
refusal_in s Hired event m = powered_refusal s event m
refusal_in s Stopped event m = powered_refusal s event m

-- why an event is refused
abbrev pub refusal_of : Setting → Event → Meter → Option Why
refusal_of s event m = refusal_in s m.operating event m
