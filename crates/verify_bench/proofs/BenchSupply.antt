-- The supply of the bench's meter.
use Rattle.std.{specs.Prelude.{nat_lt, option_map}, proofs.lemmas.Bool.{le-ltb, lt-ltb}}
use Rattle.std.proofs.Common.{ℕ, ◌<◌, ◌≡◌, ◌≢◌, ◌≤◌, None, Option, Some, arith, false, refl, sum, true}
use Rattle.verify_bench.specs.{Bench.{AreTrips, BenchStands, HasTicks, IsHeldInRange, held_of}, Common.{supply_dropped}}
use Rattle.verify_bench.specs.Common.{BenchMeter, Context, Event, ForHire, Hired, Hiring, IsSecond, Key, Meter}
use Rattle.verify_bench.specs.Common.{MeterTrip, Off, Operating, SavedState, Setting, Stopped, Trip, ended_in}
use Rattle.verify_bench.specs.Common.{held_or_closed, last_number, powered_step, roaming_entered, step_in}
use Rattle.verify_bench.specs.TripExplanations.{hired_by}
use Rattle.taxi_units.specs.declared.event.Key.TheVariants as keys

-- no trip stands beside no hiring
pub none_beside : (s : Setting) (hired : Context) (hiring : Option Hiring) (trip : Option MeterTrip) → hiring ≡ None
    → AreTrips s hired hiring trip → trip ≡ None
none_beside s hired None None none are = refl
none_beside s hired None (Some trip) none are = absurd are
none_beside s hired (Some hiring) trip none are = absurd cc

-- the held trip that the bench keeps
pub hold_beside : (hold : Option Trip) (held : SavedState) → Some held ≡ option_map held_of hold
    → (trip : Trip) × (hold ≡ Some trip) × (held ≡ held_of trip)
hold_beside None held are = absurd cc
hold_beside (Some trip) held are = (trip, refl, cc)

-- roaming is entered if there is some
pub keeps_roaming : (s : Setting) (hired : Context) (meter : BenchMeter) (m : Meter) → BenchStands s hired meter m
    → meter.hiring ≡ None → 0 < meter.roam → held_or_closed s m.trip m ≡ roaming_entered s m
keeps_roaming s hired meter m stands none long =
    let trip : m.trip ≡ None = none_beside s hired meter.hiring m.trip none stands.trips in
    let some : nat_lt 0 (sum m.roaming) ≡ true = lt-ltb 0 (sum m.roaming) (omega (arith, stands.roam)) in
    rw (trip, some) refl

-- the store takes a held trip, or no more
pub holds_yet : (s : Setting) (hired : Context) (meter : BenchMeter) (m : Meter) → BenchStands s hired meter m
    → meter.number < last_number → nat_lt m.durable.number last_number ≡ true
holds_yet s hired meter m stands few = lt-ltb m.durable.number last_number (omega (arith, stands.number))

-- what is kept of a held trip has a second of the meter
pub saved_is_a_second : (found : Option SavedState) (held : SavedState) → found ≡ Some held → IsHeldInRange found
    → IsSecond held.saved
saved_is_a_second None held is sound = absurd cc
saved_is_a_second (Some other) held is sound = let same : other ≡ held = cc in rw same at sound

pub none_held : (hold : Option Trip) (held : Option SavedState) → held ≡ None
    → held ≡ option_map held_of hold → hold ≡ None
none_held None held none is = refl
none_held (Some trip) held none is = absurd cc

pub holds_no_more : (s : Setting) (hired : Context) (meter : BenchMeter) (m : Meter) → BenchStands s hired meter m
    → last_number ≤ meter.number → nat_lt m.durable.number last_number ≡ false
holds_no_more s hired meter m stands many = le-ltb m.durable.number last_number (omega (arith, stands.number))

-- a meter that isn't off takes each event as a powered one, and a drive that ends there with a drop of the supply
pub step_on : (s : Setting) (event : Event) (operating : Operating) (m : Meter) → operating ≢ Off
    → step_in s operating event m ≡ powered_step s event m
step_on s event Off m on = absurd (on refl)
step_on s event ForHire m on = refl
step_on s event Hired m on = refl
step_on s event Stopped m on = refl

pub ended_on : (s : Setting) (operating : Operating) (m : Meter) → operating ≢ Off
    → ended_in s operating m ≡ supply_dropped s m
ended_on s Off m on = absurd (on refl)
ended_on s ForHire m on = refl
ended_on s Hired m on = refl
ended_on s Stopped m on = refl

-- but for hire no trip is hired
pub still_hired : (latch : Option Key) (operating : Operating) (now hired : Context) → operating ≢ ForHire
    → hired_by latch operating now hired ≡ hired
still_hired (Some keys.Hire) ForHire now hired on = absurd (on refl)
still_hired latch operating now hired on = refl

pub no_ticks : (hiring : Option Hiring) (ticks : ℕ) → hiring ≡ None → HasTicks hiring ticks → ticks ≡ 0
no_ticks None ticks none has = has
no_ticks (Some hiring) ticks none has = absurd cc
