-- Rules: which cores are lawful.
use Rattle.std.specs.Prelude.{ℕ, ◌*◌, ◌+◌, ◌<◌, ◌≡◌, ◌≢◌, ◌≤◌, ◌⊎◌, Bool, List, None, Option, Some, false, length, true}
use Rattle.{taxi_units.specs.Limits.{hirings_end}, tariff_compile.specs.Tables.{IsCompiled}}
use Rattle.{meter_model.specs.declared.core_trip.Fees.{Fees}, meter_states.specs.Supplements.{supplement_in}}
use Rattle.meter_states.specs.{Cache.{CachedCore, IsCacheOf}, Common.{number_most, roaming_amid, roaming_between}}
use Rattle.meter_states.specs.Common.{AreAllowed, CoreTrip, Event, ForHire, Hired, IsSecond, Meterage, Off, Operating}
use Rattle.meter_states.specs.Common.{Seal, Stopped, TableParts, amounts_from, largest_amount, last_number, last_tick}
use Rattle.meter_states.specs.Core.{CoreData}
use Rattle.taxi_units.specs.declared.event.Event.TheVariants as events

-- an event is timely if its second, if any, is of the years 2000 to 2199
abbrev pub IsTimely : Event → Type 0
IsTimely (events.Up second) = IsSecond second
IsTimely (events.Clock second) = IsSecond second
IsTimely event = Unit {0}

-- what a trip of `ticks` ticks was charged is in range under tables if the cover and the rest fit them, and there are
-- at most 41,000,000,000 full display steps for each tick
pub record IsMeterageInRange (tables : TableParts) (ticks : ℕ) (meterage : Meterage) : Type 0 where
  pub cover : meterage.cover_left ≤ largest_amount * tables.measure
  pub steps : meterage.steps_full ≤ 41000000000 * ticks
  pub rest : meterage.rest < tables.step * tables.measure

-- the supplements of a trip are in range under tables if there are sixteen counts, which the tables allow, and their
-- sum is that of the amounts
pub record AreExtrasInRange (tables : TableParts) (counts : List ℕ) (sum : ℕ) : Type 0 where
  pub sixteen : length counts ≡ 16
  pub allowed : AreAllowed (supplement_in tables) 1 counts
  pub amounts : sum ≡ amounts_from (supplement_in tables) 1 counts

-- the numbers of a trip that neither an interval nor a supplement changes are in range if it started at a second, and
-- its fees and the pulses roamed before it are in their ranges
pub record AreOthersInRange (second roamed : ℕ) (fees : Fees) : Type 0 where
  pub started : IsSecond second
  pub roam : roamed ≤ roaming_amid
  pub initial : fees.initial ≤ largest_amount
  pub minimum : fees.minimum ≤ largest_amount

-- a trip of a core is in range under tables if it has at most `most` ticks, and what it was charged, its supplements
-- and its other numbers are in range
pub record IsLawfulTrip (tables : TableParts) (most : ℕ) (trip : CoreTrip) : Type 0 where
  pub compiled : IsCompiled tables
  pub ticks : trip.ticks ≤ most
  pub meterage : IsMeterageInRange tables trip.ticks trip.meterage
  pub extras : AreExtrasInRange tables trip.extras trip.extras_sum
  pub others : AreOthersInRange trip.started trip.roam trip.fees

-- a trip of a core is in range beside a store's number if it is in range, and has at most 2,000 pulses for each tick
-- and for each number; each supply drop adds one to the number and at most 2,000 pulses to the trip
pub record IsTripBeside (tables : TableParts) (number most : ℕ) (trip : CoreTrip) : Type 0 where
  pub range : IsLawfulTrip tables most trip
  pub pulses : trip.pulses ≤ 2000 * (trip.ticks + number)

-- a trip that may be none is in range if there is none, or it is in range beside the store's number
abbrev pub IsTripInRange : TableParts → (number most : ℕ) → Option CoreTrip → Type 0
IsTripInRange tables number most None = Unit {0}
IsTripInRange tables number most (Some trip) = IsTripBeside tables number most trip

-- a trip, if there is one, has begun by a second if it began no later
abbrev pub HasBegunBy : (clock : ℕ) → Option CoreTrip → Type 0
HasBegunBy clock None = Unit {0}
HasBegunBy clock (Some trip) = trip.started ≤ clock

-- a powered meter has a trip in Hired and in Stopped, has none in For Hire, and is never in Off
abbrev pub HasTrip : Operating → Option CoreTrip → Type 0
HasTrip Off trip = ⊥
HasTrip ForHire trip = trip ≡ None
HasTrip Hired trip = trip ≢ None
HasTrip Stopped trip = trip ≢ None

-- a powered core is in its ranges under tables if at most `ticks` ticks of its trip have passed, it has at most `most`
-- roaming pulses, and its other numbers are in range; `spare` is 1 if the trip has pulses of an unfinished interval
-- that the store doesn't have yet
pub record IsPowered (tables : TableParts) (ticks most spare : ℕ) (core : CoreData) : Type 0 where
  pub compiled : IsCompiled tables
  pub on : HasTrip core.operating core.trip
  pub position : (1 ≤ core.position) × (core.position ≤ tables.positions)
  pub zone : (1 ≤ core.zone) × (core.zone ≤ tables.zones)
  pub clock : IsSecond core.clock
  pub began : IsSecond core.began
  pub gate : core.gate ≤ 2000
  pub roam : core.roam ≤ most
  pub none : core.trip ≢ None → core.roam ≡ 0
  pub ended : 0 < core.roam → core.number < hirings_end
  pub number : (1 ≤ core.number) × (core.number ≤ number_most)
  pub held : core.trip ≢ None → core.number ≤ last_number
  pub begun : HasBegunBy core.clock core.trip
  pub trip : IsTripInRange tables (core.number + spare) ticks core.trip

-- a powered core is between two events if it is in its ranges, its trip has fewer ticks than the longest trip, and it
-- has fewer than 1,000,000 roaming pulses
abbrev pub IsBetweenEvents : TableParts → CoreData → Type 0
IsBetweenEvents tables core = IsPowered tables last_tick roaming_between 0 core

-- a powered core is amid an event if it is in its ranges, its trip has fewer ticks than the longest trip, and it may
-- have the roaming pulses of one more interval
abbrev pub IsAmidEvent : TableParts → CoreData → Type 0
IsAmidEvent tables core = IsPowered tables last_tick roaming_amid 0 core

-- a core is lawful between two events if it is off, or powered and in its ranges, and its cache is one of the tables
-- and the seal; the cache only saves look-ups, and takes no part in which state of the meter the core stands for, as
-- the clause `takes` of `Core::step_into` says
pub record IsLawful (tables : TableParts) (seal : Seal) (core : CachedCore) : Type 0 where
  pub powered : (core.state.operating ≡ Off) ⊎ IsBetweenEvents tables core.state
  pub cache : IsCacheOf tables seal core.cache

-- the test `is_busy` is true if a trip runs in an operating position
abbrev pub is_busy : Operating → Bool
is_busy Off = false
is_busy ForHire = false
is_busy Hired = true
is_busy Stopped = true

-- the end of an interval takes at most 36 steps in Hired, where a charge looks up a local time, a holiday and a rate,
-- and none elsewhere
abbrev pub counting_steps : Operating → ℕ
counting_steps Hired = 36
counting_steps operating = 0

-- a key takes at most 29 steps in For Hire, where a hiring looks up a local time, a holiday and an initial hire fee,
-- and at most 12 elsewhere, where a closing looks up two local times
abbrev pub pressing_steps : Operating → ℕ
pressing_steps ForHire = 29
pressing_steps operating = 12
