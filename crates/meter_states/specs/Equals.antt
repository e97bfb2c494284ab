-- Rules: equal measuring intervals, one after the other, and when one more of them may go at once with those before.
use Rattle.std.specs.Prelude.{[], ℕ, ◌*◌, ◌++◌, ◌+◌, ◌-◌, ◌<◌, ◌==◌, ◌∷◌, ◌≡◌, ◌≤◌, List, None, Option, Some}
use Rattle.std.specs.Prelude.{if◌then◌else◌, nat_lt, suc, zero}
use Rattle.{taxi_units.specs.Limits.{hirings_end}, meter_states.specs.Core.{CoreData}}
use Rattle.drive_modes.specs.declared.meterage.Rounding.TheVariants.{Ahead, Behind}
use Rattle.meter_states.specs.Common.{Cache, CachedRate, CachedTime, Context, CoreTrip, Display, Event, ForHire, Hired}
use Rattle.meter_states.specs.Common.{IsNear, Meterage, Off, Operating, Pulses, Rounding, Seal, Stopped, TableParts}
use Rattle.meter_states.specs.Common.{Tick, charge_of, fare_by_fees, longest_trip, roaming_most, steps_of}

-- a measuring interval has the event of its pulses, if it has any, and then the tick at its end
abbrev pub interval_of : (pulses : ℕ) → List Event
interval_of zero = Tick ∷ []
interval_of (suc p) = Pulses (suc p) ∷ Tick ∷ []

-- `count` intervals with the same number of pulses each have the events of one such interval, `count` times
abbrev pub intervals_of : (pulses count : ℕ) → List Event
intervals_of p zero = []
intervals_of p (suc count) = interval_of p ++ intervals_of p count

-- the fare that a core shows is the one of its trip, and 0 without one
abbrev pub fare_by : TableParts → Option CoreTrip → ℕ
fare_by tables None = 0
fare_by tables (Some t) = fare_by_fees t.fees tables.step (steps_of tables.rounding t.meterage)

-- the amount of supplements that a core shows is the one of its trip, and 0 without one
abbrev pub extras_by : Option CoreTrip → ℕ
extras_by None = 0
extras_by (Some t) = t.extras_sum

-- the display of a core has its operating position, its position and its zone, the fare and the supplements of its
-- trip, and the decimals of the tables
abbrev pub display_by : TableParts → CoreData → Display
display_by tables c = record {
  operating = c.operating;
  position = c.position;
  zone = c.zone;
  fare = fare_by tables c.trip;
  supplements = extras_by c.trip;
  decimals = tables.decimals;
}

-- a core is still if its interval began at the clock's second and has no pulses yet, no key waits, and its display was
-- shown last
pub record IsStill (tables : TableParts) (c : CoreData) : Type 0 where
  pub latch : c.latch ≡ None
  pub gate : c.gate ≡ 0
  pub began : c.began ≡ c.clock
  pub shown : c.shown ≡ Some (display_by tables c)

-- an interval of p pulses adds this many roaming pulses at a number of the store: none if the store takes no hiring
abbrev pub roams : (number p : ℕ) → ℕ
roams number p = if nat_lt number hirings_end then p else 0

-- a meterage can take charges of this sum without showing a further display step
abbrev pub spare_of : Rounding → (modulus : ℕ) → Meterage → ℕ
spare_of Behind modulus m = m.cover_left + (modulus - 1 - m.rest)
spare_of Ahead modulus m = if m.rest == 0 then m.cover_left else m.cover_left + (modulus - 1 - m.rest)

-- the context that a core and a cached time give, with a trip, has the core's position and zone, what the time has, and
-- the pulses and ticks of the trip
abbrev pub context_by : TableParts → CachedTime → CoreData → CoreTrip → Context
context_by tables local c t = record {
  constant = tables.constant;
  position = c.position;
  zone = c.zone;
  weekday = local.weekday;
  month_day = local.month_day;
  holiday = local.holiday;
  minute = local.minute;
  pulses = t.pulses;
  ticks = t.ticks;
}

-- a cache serves for the running interval of a core with a trip if it has the local time of the second at which the
-- interval began; it has a rate, and the interval's context is near the rate's own
pub record Serves (tables : TableParts) (cache : Cache) (c : CoreData) (t : CoreTrip) : Type 0 where
  pub local : CachedTime
  pub rate : CachedRate
  pub keeps_local : cache.local ≡ Some local
  pub keeps_rate : cache.rate ≡ Some rate
  pub second : local.second ≡ c.began
  pub near : IsNear rate.lasting.further rate.lasting.longer rate.first (context_by tables local c t)

-- a trip outlasts an interval more if the interval isn't its last, with which it has the ticks of the longest trip
pub record Outlasts (c : CoreData) : Type 0 where
  pub trip : CoreTrip
  pub has : c.trip ≡ Some trip
  pub short : trip.ticks + 1 < longest_trip

-- an interval of p pulses may be charged at once if the trip outlasts it, its charge moves the fare on by no display
-- step, and the cache serves for it; by the pulses and ticks of its rate it serves for the next one, too
pub record MayBeCharged (tables : TableParts) (seal : Seal) (cache : Cache) (p : ℕ) (c : CoreData) : Type 0 where
  pub outlasts : Outlasts c
  pub serve : Serves tables cache c outlasts.trip
  pub further : outlasts.trip.pulses + p ≤ serve.rate.first.pulses + serve.rate.lasting.further
  pub longer : outlasts.trip.ticks + 1 ≤ serve.rate.first.ticks + serve.rate.lasting.longer
  pub spare : charge_of seal.params.mode serve.rate.lasting.weights p
      ≤ spare_of tables.rounding (tables.step * tables.measure) outlasts.trip.meterage

-- an interval of p pulses may go at once in For Hire if no roaming is entered behind it, in Hired if it may be charged
-- at once, and in Stopped if the trip outlasts it
abbrev pub MayGoIn : TableParts → Seal → Cache → (p : ℕ) → CoreData → Operating → Type 0
MayGoIn tables seal cache p c Off = ⊥
MayGoIn tables seal cache p c ForHire = c.roam + roams c.number p < roaming_most
MayGoIn tables seal cache p c Hired = MayBeCharged tables seal cache p c
MayGoIn tables seal cache p c Stopped = Outlasts c

-- an interval of p pulses may go at once at a core that is still, if it has at most 2,000 pulses and may go at once in
-- the core's operating position
pub record MayGo (tables : TableParts) (seal : Seal) (cache : Cache) (p : ℕ) (c : CoreData) : Type 0 where
  pub pulses : p ≤ 2000
  pub still : IsStill tables c
  pub goes : MayGoIn tables seal cache p c c.operating
