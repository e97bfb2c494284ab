-- Rules: the entries of a trip that is closed, with its receipt directly behind, and of roaming.
use Rattle.std.specs.Prelude.{[], ℕ, None, Option, Some, if◌then◌else◌, nat_le, sum}
use Rattle.{taxi_units.specs.Limits.{roaming_most}, drive_modes.specs.Distance.{millimetres_of}}
use Rattle.taxi_units.specs.declared.receipt.{Kind.{Kind, TheVariants.{Roam}}, Receipt.{Receipt}}
use Rattle.{totals_record.specs.declared.entry.Entry.{Entry}, meter_model.specs.Supplements.{amounts_of}}
use Rattle.meter_model.specs.{Common.{ForHire, Operating}, Meter.{◌>>=◌, Meter, Outcome, entered, printed, quiet}}
use Rattle.meter_model.specs.{Setting.{Setting, stamp_at}, Trip.{MeterTrip, fare_of, pulses_of, steps_shown}}

-- the entry of a trip that is closed at a tariff position has its kind, its distances, its fare and its supplements
abbrev pub entry_of_trip : Setting → Kind → (position : ℕ) → MeterTrip → Entry
entry_of_trip s kind position t = record {
  kind = kind;
  roam_mm = millimetres_of s.constant t.roam;
  hired_mm = millimetres_of s.constant (pulses_of t);
  fare = fare_of s t;
  supplements = amounts_of s.tariff t.extras;
  position = position;
}

-- the receipt of a trip that is closed has the store's number after its entry, its kind, its start and its finish in
-- local time, its position, its distance, what makes its fare, its supplements, and the tariff's decimals
abbrev pub receipt_of : Setting → Kind → (finish position : ℕ) → MeterTrip → (number : ℕ) → Receipt
receipt_of s kind finish position t number = record {
  number = number;
  kind = kind;
  start = stamp_at s t.started;
  finish = stamp_at s finish;
  position = position;
  hired_mm = millimetres_of s.constant (pulses_of t);
  initial = t.fees.initial;
  minimum = t.fees.minimum;
  steps = steps_shown s t;
  step = s.tariff.step.0;
  fare = fare_of s t;
  supplements = amounts_of s.tariff t.extras;
  decimals = s.tariff.decimals;
}

-- a trip that is closed, if there is one, is entered, and directly behind it its receipt is printed
abbrev pub trip_closed : Setting → Kind → (finish : ℕ) → Option MeterTrip → Meter → Outcome
trip_closed s kind finish None m = quiet m
trip_closed s kind finish (Some t) m = do
  m ← entered (entry_of_trip s kind m.position t) m
  printed (receipt_of s kind finish m.position t m.durable.number) m

-- a meter that closes its trip enters it, prints its receipt, has no trip then, and is for hire
abbrev pub closed : Setting → Kind → (finish : ℕ) → Meter → Outcome
closed s kind finish m = trip_closed s kind finish m.trip (record m { operating = ForHire; trip = None })

-- the entry of roaming has the distance alone
abbrev pub roaming_entry : Setting → (pulses : ℕ) → Entry
roaming_entry s pulses = record {
  kind = Roam;
  roam_mm = millimetres_of s.constant pulses;
  hired_mm = 0;
  fare = 0;
  supplements = 0;
  position = 0;
}

-- the roaming pulses of a meter are entered, and are none then
abbrev pub roaming_entered : Setting → Meter → Outcome
roaming_entered s m = entered (roaming_entry s (sum m.roaming)) (record m { roaming = [] })

-- in For Hire the roaming pulses are entered if they are 1,000,000 or more, and in no other operating position
abbrev pub roaming_checked_in : Setting → Operating → Meter → Outcome
roaming_checked_in s ForHire m = if nat_le roaming_most (sum m.roaming) then roaming_entered s m else quiet m
roaming_checked_in s operating m = quiet m

-- the roaming pulses of a meter are entered if it is for hire and they are 1,000,000 or more
abbrev pub roaming_checked : Setting → Meter → Outcome
roaming_checked s m = roaming_checked_in s m.operating m
