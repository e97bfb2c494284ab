-- Rules: a trip, as the whole list of its intervals, and its fare.
use Rattle.std.specs.Prelude.{[], ℕ, ◌*◌, ◌++◌, ◌+◌, ◌∷◌, Bool, List, map, replicate, sum}
use Rattle.{drive_modes.specs.Fare.{shown_fare, steps_above}, tariff_check.specs.declared.values.Initial.{Initial}}
use Rattle.meter_model.specs.Charge.{charge_at}
use Rattle.meter_model.specs.{Common.{Context, Trip, saved}, declared.core_trip.{CoreTrip.{CoreTrip}, Fees.{Fees}}}
use Rattle.meter_model.specs.{Setting.{Setting, modulus_of, rounding_of, unit_of}, Supplements.{amounts_of, counts_of}}
use Rattle.drive_modes.specs.Fare as fares

-- a part of a trip is an interval that ended in Hired, with the context at its beginning, one that ended in Stopped, or
-- the pulses of one that a supply drop left unfinished
pub data Part : Type 0 where
  InHired : (pulses : ℕ) (x : Context) → Part
  InStopped : (pulses : ℕ) → Part
  Rest : (pulses : ℕ) → Part

-- the opening of a trip is what came before its parts: the cover that is left and what was charged above it, in units
-- of charge, and the pulses and the ticks
pub record Opening : Type 0 where
  pub cover : ℕ
  pub above : ℕ
  pub pulses : ℕ
  pub ticks : ℕ

-- a trip has its start second, its fees, the pulses that were roamed before the hiring, its opening, its parts in
-- order, and the numbers of its supplements in order
pub record MeterTrip : Type 0 where
  pub started : ℕ
  pub fees : Fees
  pub roam : ℕ
  pub opening : Opening
  pub parts : List Part
  pub extras : List ℕ

-- the pulses in a part are its own, of whichever kind it is
abbrev pub pulses_in : Part → ℕ
pulses_in (InHired p x) = p
pulses_in (InStopped p) = p
pulses_in (Rest p) = p

-- a part counts one tick if its interval ended, and none if it was left unfinished
abbrev pub ticks_in : Part → ℕ
ticks_in (InHired p x) = 1
ticks_in (InStopped p) = 1
ticks_in (Rest p) = 0

-- the charge in a part whose interval ended in Hired is the one in the context at its beginning, and any other part is
-- free
abbrev pub charge_in : Setting → Part → ℕ
charge_in s (InHired p x) = charge_at s x p
charge_in s (InStopped p) = 0
charge_in s (Rest p) = 0

-- the pulses of a trip are those of its opening and of its parts
abbrev pub pulses_of : MeterTrip → ℕ
pulses_of t = t.opening.pulses + sum (map pulses_in t.parts)

-- the ticks of a trip are those of its opening and of its parts
abbrev pub ticks_of : MeterTrip → ℕ
ticks_of t = t.opening.ticks + sum (map ticks_in t.parts)

-- the charges of a trip are the sum of the charges in its parts
abbrev pub charges_of : Setting → MeterTrip → ℕ
charges_of s t = sum (map (charge_in s) t.parts)

-- the charges of a trip begin with the cover and the charge of its opening, and a display step has the units of charge
-- that the tariff gives it
abbrev pub opening_of : Setting → MeterTrip → fares.Opening
opening_of s t = record { cover = t.opening.cover; above = t.opening.above; modulus = modulus_of s }

-- the display steps of a trip are its charges above the cover, divided by a display step, and rounded as the tariff
-- says
abbrev pub steps_shown : Setting → MeterTrip → ℕ
steps_shown s t = steps_above (rounding_of s) (opening_of s t) (charges_of s t)

-- the fees of a hiring are the initial hire fee and the minimum fare of what it begins with
abbrev pub fees_of : Initial → Fees
fees_of fee = record { initial = fee.amount; minimum = fee.minimum }

-- the fare by fees after `steps` display steps is the initial hire fee and the display step for each of them, or the
-- minimum fare if that is more, and at most 99,999,999
abbrev pub fare_by_fees : Fees → (step steps : ℕ) → ℕ
fare_by_fees fees step steps = shown_fare fees.initial fees.minimum step steps

-- the fare of a trip is the one by its fees after the steps shown
abbrev pub fare_of : Setting → MeterTrip → ℕ
fare_of s t = fare_by_fees t.fees s.tariff.step.0 (steps_shown s t)

-- a trip that is hired at a second, after some roaming pulses, begins with its fees and its cover, and has no parts yet
abbrev pub begun : Setting → Initial → (second roam : ℕ) → MeterTrip
begun s fee second roam = record {
  started = second;
  fees = fees_of fee;
  roam = roam;
  opening = record { cover = fee.covers * unit_of s; above = 0; pulses = 0; ticks = 0 };
  parts = [];
  extras = [];
}

-- a trip with a part more has that part behind its own
abbrev pub with_part : Part → MeterTrip → MeterTrip
with_part part t = record t { parts = t.parts ++ part ∷ [] }

-- a trip with a supplement more has the number of that supplement behind its own
abbrev pub with_extra : (number : ℕ) → MeterTrip → MeterTrip
with_extra number t = record t { extras = t.extras ++ number ∷ [] }

-- what a core keeps of a trip are its numbers, the sums of its parts, and what its charges have come to
abbrev pub core_trip_of : Setting → MeterTrip → CoreTrip
core_trip_of s t = record {
  started = t.started;
  roam = t.roam;
  pulses = pulses_of t;
  ticks = ticks_of t;
  fees = t.fees;
  meterage = saved (opening_of s t) (charges_of s t);
  extras = counts_of t.extras;
  extras_sum = amounts_of s.tariff t.extras;
}

-- what a core keeps of a trip is saved with the second, whether the trip is stopped, the position and the zone
abbrev pub saved_at : (second : ℕ) → (stopped : Bool) → (position zone : ℕ) → CoreTrip → Trip
saved_at second stopped position zone trip = record {
  started = trip.started;
  saved = second;
  stopped = stopped;
  position = position;
  zone = zone;
  roam = trip.roam;
  pulses = trip.pulses;
  ticks = trip.ticks;
  initial = trip.fees.initial;
  minimum = trip.fees.minimum;
  meterage = trip.meterage;
  extras = trip.extras;
  extras_sum = trip.extras_sum;
}

-- a held trip is a trip as it is saved at a supply drop, with the second, whether it is stopped, the position and the
-- zone
abbrev pub held_trip : Setting → (second : ℕ) → (stopped : Bool) → (position zone : ℕ) → MeterTrip → Trip
held_trip s second stopped position zone t = saved_at second stopped position zone (core_trip_of s t)

-- what a core keeps of a held trip is all that was not added as it was saved
abbrev pub core_trip_in : Trip → CoreTrip
core_trip_in held = record {
  started = held.started;
  roam = held.roam;
  pulses = held.pulses;
  ticks = held.ticks;
  fees = record { initial = held.initial; minimum = held.minimum };
  meterage = held.meterage;
  extras = held.extras;
  extras_sum = held.extras_sum;
}

-- a list of numbers is made of counts, the first of which is that of the number `first` and each further one that of
-- the next number: it has each number as often as its count says, in order
abbrev pub numbers_from : (first : ℕ) → (counts : List ℕ) → List ℕ
numbers_from first [] = []
numbers_from first (count ∷ counts) = replicate count first ++ numbers_from (first + 1) counts

-- a held trip goes on as a trip whose opening has what was charged before, and whose list of intervals is what follows
abbrev pub trip_of : Setting → Trip → MeterTrip
trip_of s trip = record {
  started = trip.started;
  fees = record { initial = trip.initial; minimum = trip.minimum };
  roam = trip.roam;
  opening = record {
    cover = trip.meterage.cover_left;
    above = trip.meterage.steps_full * modulus_of s + trip.meterage.rest;
    pulses = trip.pulses;
    ticks = trip.ticks;
  };
  parts = [];
  extras = numbers_from 1 trip.extras;
}
