-- For proofs: the meter of the bench, and which state of the meter it stands for. Meter, of meter_model, says what a
-- state is.
use Rattle.std.specs.Prelude.{ℕ, ◌*◌, ◌++◌, ◌+◌, ◌-◌, ◌^◌, ◌≡◌, ◌≤◌, List, None, Option, Some, map, min, option_map}
use Rattle.{std.specs.Prelude.{sum}, meter_model.specs.Keys.{hiring}, verify_bench.specs.Hirings.{IsHiringOf, IsWhole}}
use Rattle.verify_bench.specs.Common.{BenchMeter, Context, Event, Explained, ForHire, Hiring, IsInRange, IsSecond, Key}
use Rattle.verify_bench.specs.Common.{Meter, MeterTrip, Outcome, SavedState, Setting, Trip, context_now}
use Rattle.verify_bench.specs.Common.{expired_or_pressed, key_in, last_number, last_tick}
use Rattle.verify_bench.specs.TripExplanations.{explanation_of, explanations_in, hired_at, hired_by, trip_at}

-- a count of 64 bits stands still at its last value, 2^64 - 1
abbrev pub limited : ℕ → ℕ
limited count = min count (2 ^ 64 - 1)

-- the bench keeps of a held trip how it goes on: the second of its saving, whether it was stopped, position and zone
abbrev pub held_of : Trip → SavedState
held_of trip = record { saved = trip.saved; stopped = trip.stopped; position = trip.position; zone = trip.zone }

-- a hiring of the bench and a trip of the meter agree if neither is there, or both are and the hiring is that trip,
-- hired in the context
abbrev pub AreTrips : Setting → (hired : Context) → Option Hiring → Option MeterTrip → Type 0
AreTrips s hired None None = Unit {0}
AreTrips s hired (Some hiring) (Some trip) = IsHiringOf s hired hiring trip
AreTrips s hired None (Some trip) = ⊥
AreTrips s hired (Some hiring) None = ⊥

-- a meter of the bench stands for a state of the meter if it has each part of it on which receipts depend, with sums
-- for the lists of pulses, and its hiring is the trip; the last trip of the state was hired in the context
pub record BenchStands (s : Setting) (hired : Context) (meter : BenchMeter) (m : Meter) : Type 0 where
  pub operating : meter.operating ≡ m.operating
  pub clock : meter.clock ≡ m.clock
  pub began : meter.began ≡ m.began
  pub taken : meter.taken ≡ sum m.taken
  pub latch : meter.latch ≡ m.latch
  pub position : meter.position ≡ m.position
  pub zone : meter.zone ≡ m.zone
  pub roam : meter.roam ≡ limited (sum m.roaming)
  pub number : meter.number ≡ limited m.durable.number
  pub held : meter.held ≡ option_map held_of m.durable.hold
  pub trips : AreTrips s hired meter.hiring m.trip

-- a hiring is sound beside the store's number if it is whole, has at most `most` ticks, and at most 2,000 pulses for
-- each tick, for each held trip that the number counts, and for `more` unfinished intervals
abbrev pub IsHiringInRange : (number most more : ℕ) → Option Hiring → Type 0
IsHiringInRange number most more None = Unit {0}
IsHiringInRange number most more (Some hiring) =
    IsWhole hiring × (hiring.whole.pulses ≤ 2000 * (hiring.whole.ticks + number + more)) × (number ≤ last_number)
    × (hiring.whole.ticks ≤ most)

-- what is kept of a held trip is sound if the second of its saving is one of the meter's
abbrev pub IsHeldInRange : Option SavedState → Type 0
IsHeldInRange None = Unit {0}
IsHeldInRange (Some held) = IsSecond held.saved

-- a meter of the bench is sound if its seconds and its pulses are in their ranges, For Hire has no hiring, and a
-- hiring is sound with at most `most` ticks and `more` unfinished intervals
pub record IsMeterInRange (most more : ℕ) (meter : BenchMeter) : Type 0 where
  pub clock : IsSecond meter.clock
  pub began : IsSecond meter.began
  pub taken : meter.taken ≤ 2000
  pub for_hire : meter.operating ≡ ForHire → meter.hiring ≡ None
  pub held : IsHeldInRange meter.held
  pub hiring : IsHiringInRange meter.number most more meter.hiring

-- a meter of the bench may take an event if it is sound, its hiring short of its longest time and no interval
-- unfinished, and the numbers of the event are in their ranges
abbrev pub MayTake : BenchMeter → Event → Type 0
MayTake meter event = IsMeterInRange last_tick 0 meter × IsInRange event

-- a hiring has the ticks that it counts, and if there is none they are 0
abbrev pub HasTicks : Option Hiring → (ticks : ℕ) → Type 0
HasTicks None ticks = ticks ≡ 0
HasTicks (Some hiring) ticks = ticks ≡ hiring.whole.ticks

-- a meter of the bench has moved to an outcome if it stands for the next state, whose last trip was hired in the
-- context `next`; behind what was found before come the explanations of the receipts among the outcome's acts, by the
-- given trip, which was hired in the context `hired`
pub record Moves (s : Setting) (hired next : Context) (trip : Option MeterTrip) (before after : List Explained)
    (meter : BenchMeter) (o : Outcome) : Type 0 where
  pub state : BenchStands s next meter o.next
  pub found : map explanation_of after ≡ map explanation_of before ++ explanations_in s hired trip o.acts

-- a meter of the bench goes through a stage if from each state that it stood for it has moved to what the stage
-- comes to; receipts are explained by the trip before the stage, and none is hired
abbrev pub GoesThrough : Setting → (stage : Setting → Meter → Outcome) → (old new : BenchMeter)
    → (before after : List Explained) → Type 0
GoesThrough s stage old new before after =
    (m : Meter) (hired : Context) → BenchStands s hired old m → Moves s hired hired m.trip before after new (stage s m)

-- a meter of the bench goes through a stage quietly if nothing is found in it, whatever was found before, and no trip
-- is hired
abbrev pub GoesThroughQuietly : Setting → (stage : Setting → Meter → Outcome) → (old new : BenchMeter) → Type 0
GoesThroughQuietly s stage old new =
    (trip : Option MeterTrip) (found : List Explained) (m : Meter) (hired next : Context) → BenchStands s next old m
    → Moves s hired next trip found found new (stage s m)

-- a meter of the bench hires if nothing is found in it, and the context of the meter is that of the hiring
abbrev pub GoesThroughHiring : Setting → (old new : BenchMeter) → Type 0
GoesThroughHiring s old new =
    (trip : Option MeterTrip) (found : List Explained) (m : Meter) (hired : Context) → BenchStands s hired old m
    → Moves s hired (context_now s m) trip found found new (hiring s m)

-- a meter of the bench goes through a key if from each state that it stood for it has moved to what the key comes to;
-- receipts are explained by the trip before the key
abbrev pub GoesThroughKey : Setting → Key → (old new : BenchMeter) → (before after : List Explained) → Type 0
GoesThroughKey s key old new before after =
    (m : Meter) (hired : Context) → BenchStands s hired old m
    → Moves s hired (hired_by (Some key) m.operating (context_now s m) hired) m.trip before after new
    (key_in s key m.operating m)

-- a meter of the bench goes through the key that waits if from each state that it stood for it has moved to what the
-- end of the trip's time, or that key, comes to
abbrev pub GoesThroughLatch : Setting → (old new : BenchMeter) → (before after : List Explained) → Type 0
GoesThroughLatch s old new before after =
    (m : Meter) (hired : Context) → BenchStands s hired old m
    → Moves s hired (hired_by m.latch m.operating (context_now s m) hired) m.trip before after new
    (expired_or_pressed s m)

-- a meter of the bench goes through an event if from each state that it stood for it has moved to what the event
-- comes to; receipts are explained by the trip that the event closes
abbrev pub GoesThroughEvent : Setting → Event → (comes_to : Setting → Meter → Outcome) → (old new : BenchMeter)
    → (before after : List Explained) → Type 0
GoesThroughEvent s event comes_to old new before after =
    (m : Meter) (hired : Context) → BenchStands s hired old m
    → Moves s hired (hired_at s event m hired) (trip_at s event m) before after new (comes_to s m)
