-- Rules: keys, one of which may wait for the end of the interval, and acts then.
use Rattle.std.specs.Prelude.{[], ℕ, ◌&&◌, Bool, None, Option, Some, if◌then◌else◌, nat_le, sum}
use Rattle.taxi_units.specs.declared.event.Why.TheVariants.{AtMost, Ended, KeyWaiting, NoSuch}
use Rattle.meter_model.specs.{ClosedTrip.{closed}, Interval.{context_now}, Supplements.{times}}
use Rattle.meter_model.specs.Common.{Closed, ForHire, Hired, Key, NotNow, Operating, Stopped, Supplement, fees_in_force}
use Rattle.meter_model.specs.{Common.{hirings_end, supplement_numbered}, Meter.{Meter, Outcome, quiet, refused}}
use Rattle.meter_model.specs.{Setting.{Setting}, Trip.{MeterTrip, begun, with_extra}, declared.key_act.KeyAct.{KeyAct}}
use Rattle.taxi_units.specs.declared.event.Key.TheVariants as keys
use Rattle.meter_model.specs.declared.key_act.KeyAct.TheVariants as key_acts

-- a key that is pressed waits for the end of the interval, and is refused if another one waits
abbrev pub latched : Option Key → Key → Meter → Outcome
latched None key m = quiet (record m { latch = Some key })
latched (Some waiting) key m = refused KeyWaiting m

-- a meter that is hired has a trip that begins at the clock's second, with the fees that are in force there, and takes
-- the roaming pulses
abbrev pub hired : Setting → Meter → Meter
hired s m = record m {
  operating = Hired;
  trip = Some (begun s (fees_in_force s.tariff (context_now s m)) m.clock (sum m.roaming));
  roaming = [];
}

-- the key Hire hires a meter that is for hire, and is refused if the store takes no hiring
abbrev pub hiring : Setting → Meter → Outcome
hiring s m = if nat_le hirings_end m.durable.number then refused Ended m else quiet (hired s m)

-- the test `is_among` is true if a number is from 1 to the most
abbrev pub is_among : (most n : ℕ) → Bool
is_among most n = nat_le 1 n && nat_le n most

-- the key of a tariff position sets it, and is refused if the tariff has no such position
abbrev pub position_set : Setting → (n : ℕ) → Meter → Outcome
position_set s n m =
    if is_among s.tariff.positions n then quiet (record m { position = n }) else refused NoSuch m

-- the key of a zone sets it, and is refused if the tariff has no such zone
abbrev pub zone_set : Setting → (n : ℕ) → Meter → Outcome
zone_set s n m = if is_among s.tariff.zones n then quiet (record m { zone = n }) else refused NoSuch m

-- a supplement that the tariff has is added to the trip, and is refused if it was added as often as it may be
abbrev pub extra_added_to : (n : ℕ) → Supplement → Option MeterTrip → Meter → Outcome
extra_added_to n supplement None m = quiet m
extra_added_to n supplement (Some t) m =
    if nat_le supplement.max (times n t.extras)
    then refused AtMost m
    else quiet (record m { trip = Some (with_extra n t) })

-- the key of a supplement adds it, and is refused if the tariff has no such supplement
abbrev pub extra_added : (n : ℕ) → Option Supplement → Meter → Outcome
extra_added n None m = refused NoSuch m
extra_added n (Some supplement) m = extra_added_to n supplement m.trip m

-- a key does something in the operating positions in which the lines below let it, and is refused in all others
abbrev pub act_of : Key → Operating → KeyAct
act_of keys.Hire ForHire = key_acts.Hire
act_of keys.Hire Stopped = key_acts.Move Hired
act_of keys.Stop Hired = key_acts.Move Stopped
act_of keys.Clear Stopped = key_acts.Clear
act_of (keys.Position n) ForHire = key_acts.Position n
act_of (keys.Position n) Hired = key_acts.Position n
act_of (keys.Zone n) ForHire = key_acts.Zone n
act_of (keys.Zone n) Hired = key_acts.Zone n
act_of (keys.Extra n) Hired = key_acts.Extra n
act_of (keys.Extra n) Stopped = key_acts.Extra n
act_of key operating = key_acts.Refuse

-- what a key does is to hire, to take the trip to another operating position, to close the trip, to set the tariff
-- position or the zone, or to add a supplement; a key that does nothing is refused
abbrev pub act_done : Setting → KeyAct → Meter → Outcome
act_done s key_acts.Hire m = hiring s m
act_done s (key_acts.Move to) m = quiet (record m { operating = to })
act_done s key_acts.Clear m = closed s Closed m.clock m
act_done s (key_acts.Position n) m = position_set s n m
act_done s (key_acts.Zone n) m = zone_set s n m
act_done s (key_acts.Extra n) m = extra_added n (supplement_numbered s.tariff.supplements n) m
act_done s key_acts.Refuse m = refused NotNow m

-- a key in an operating position comes to what it does there
abbrev pub key_in : Setting → Key → Operating → Meter → Outcome
key_in s key operating m = act_done s (act_of key operating) m

-- the key that waits, if one does, waits no more and acts in the meter's operating position
abbrev pub latch_pressed : Setting → Option Key → Meter → Outcome
latch_pressed s None m = quiet m
latch_pressed s (Some key) m = key_in s key m.operating (record m { latch = None })

-- the key that waits in the meter acts, if one does
abbrev pub key_pressed : Setting → Meter → Outcome
key_pressed s m = latch_pressed s m.latch m
