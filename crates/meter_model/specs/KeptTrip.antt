-- Rules: what the store keeps of the trip.
use Rattle.std.specs.Prelude.{[], ℕ, ◌++◌, ◌<◌, ◌∷◌, ◌≡◌, ◌≢◌, ◌≤◌, List, None, Option, Some, length, option_map}
use Rattle.meter_model.specs.Common.{ForHire, Hired, Off, Operating, Stopped, Trip, supplement_numbered}
use Rattle.meter_model.specs.{Meter.{Meter}, Setting.{Setting, modulus_of}, Supplements.{amounts_from}}
use Rattle.meter_model.specs.Trip.{InHired, InStopped, MeterTrip, Part, Rest, core_trip_in, core_trip_of}

-- a held trip is the saved form of a trip if both are none, or if a core keeps the same of both
abbrev pub IsSavedIn : Setting → (hold : Option Trip) → Option MeterTrip → Type 0
IsSavedIn s hold trip = option_map core_trip_in hold ≡ option_map (core_trip_of s) trip

-- the trip is kept in Off if the store holds the saved form of the meter's trip, or no trip if the meter has none; in
-- For Hire if there is no trip and none is held; in Hired and Stopped if there is a trip and no roaming pulses wait for
-- an entry
abbrev pub IsTripKeptIn : Setting → Operating → (hold : Option Trip) → Option MeterTrip → (roaming : List ℕ) → Type 0
IsTripKeptIn s Off hold trip roaming = IsSavedIn s hold trip
IsTripKeptIn s ForHire hold trip roaming = (hold ≡ None) × (trip ≡ None)
IsTripKeptIn s Hired hold trip roaming = (trip ≢ None) × (roaming ≡ [])
IsTripKeptIn s Stopped hold trip roaming = (trip ≢ None) × (roaming ≡ [])

-- the meter's trip is kept if the store holds what it should in the meter's operating position
abbrev pub IsTripKept : Setting → Meter → Type 0
IsTripKept s m = IsTripKeptIn s m.operating m.durable.hold m.trip m.roaming

-- a saved trip fits a setting if its rest is less than a display step, and the amounts of its supplements are those of
-- its counts
pub record FitsSetting (s : Setting) (trip : Trip) : Type 0 where
  pub rest : trip.meterage.rest < modulus_of s
  pub extras : length trip.extras ≡ 16
  pub extras_sum : trip.extras_sum ≡ amounts_from (supplement_numbered s.tariff.supplements) 1 trip.extras

-- what a store holds fits a setting if it is no trip, or one that fits the setting
abbrev pub HoldFits : Setting → Option Trip → Type 0
HoldFits s None = Unit {0}
HoldFits s (Some trip) = FitsSetting s trip

-- a trip with more parts has them behind its own
abbrev pub with_parts : List Part → MeterTrip → MeterTrip
with_parts parts t = record t { parts = t.parts ++ parts }

-- a trip with more parts and supplements has them behind its own
abbrev pub with_more : List Part → (extras : List ℕ) → MeterTrip → MeterTrip
with_more parts extras t = record t { parts = t.parts ++ parts; extras = t.extras ++ extras }

-- a number is that of a supplement if it is 1 to 16
abbrev pub IsSupplementNumber : ℕ → Type 0
IsSupplementNumber n = (1 ≤ n) × (n ≤ 16)

-- the intervals in Hired of a list of parts are its parts that ended in Hired, in order
abbrev pub hired_in : List Part → List Part
hired_in [] = []
hired_in (InHired p x ∷ parts) = InHired p x ∷ hired_in parts
hired_in (InStopped p ∷ parts) = hired_in parts
hired_in (Rest p ∷ parts) = hired_in parts
