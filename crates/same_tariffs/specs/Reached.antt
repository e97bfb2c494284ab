-- Rules: the states that a meter comes to in runs.
use Rattle.std.specs.Prelude.{ℕ, ◌≤◌, None, Option, Some}
use Rattle.tariff_check.specs.SoundTariff.{SoundTariff}
use Rattle.same_tariffs.specs.Common.{IsFromTo, IsSecond, Meter, Setting, Trip, last_tick, ticks_so_far}

-- a position and a zone are set under a tariff if they are among those that it has
pub record AreSet (tariff : SoundTariff) (position zone : ℕ) : Type 0 where
  pub position_in : IsFromTo 1 tariff.positions position
  pub zone_in : IsFromTo 1 tariff.zones zone

-- a held trip goes on under a tariff if its position and its zone are set, and it has fewer ticks than the longest trip
pub record GoesOn (tariff : SoundTariff) (trip : Trip) : Type 0 where
  pub set : AreSet tariff trip.position trip.zone
  pub ticks : trip.ticks ≤ last_tick

-- what a store holds goes on if it is no trip, or one that goes on
abbrev pub HoldGoesOn : SoundTariff → Option Trip → Type 0
HoldGoesOn tariff None = Unit {0}
HoldGoesOn tariff (Some trip) = GoesOn tariff trip

-- a meter is in place if its position and its zone are set, and its clock and the beginning of its interval are seconds
-- of the meter
pub record IsPlace (tariff : SoundTariff) (position zone clock began : ℕ) : Type 0 where
  pub set : AreSet tariff position zone
  pub clock_in : IsSecond clock
  pub began_in : IsSecond began

-- a state is one of a meter in place if its own position, zone, clock and interval are
abbrev pub IsPlaced : Setting → Meter → Type 0
IsPlaced s m = IsPlace s.tariff m.position m.zone m.clock m.began

-- a state is within reach with some ticks if the meter is in place, what the store holds goes on, and the trip has at
-- most these ticks
pub record IsWithin (s : Setting) (most : ℕ) (m : Meter) : Type 0 where
  pub placed : IsPlaced s m
  pub hold : HoldGoesOn s.tariff m.durable.hold
  pub ticks : ticks_so_far m.trip ≤ most

-- a state is within reach between two events if it is with fewer ticks than the longest trip
abbrev pub IsWithinReach : Setting → Meter → Type 0
IsWithinReach s m = IsWithin s last_tick m
