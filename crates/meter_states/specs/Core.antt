-- Rules: the core's own state, and which state of the meter it stands for.
use Rattle.std.specs.Prelude.{ℕ, ◌++◌, ◌≡◌, ◌≢◌, ◌⊎◌, List, Option, option_map, sum}
use Rattle.meter_states.specs.Common.{Act, CoreTrip, Display, Key, Meter, Off, Operating, Outcome, Setting}
use Rattle.meter_states.specs.Common.{core_trip_of}

-- a core's own state has counts in place of lists, the sums of the trip in place of its intervals, and the store's
-- number in place of what the store has
pub record CoreData : Type 0 where
  pub operating : Operating
  pub clock : ℕ
  pub began : ℕ
  pub gate : ℕ
  pub latch : Option Key
  pub position : ℕ
  pub zone : ℕ
  pub roam : ℕ
  pub number : ℕ
  pub shown : Option Display
  pub trip : Option CoreTrip

-- the core of a state of the meter counts the pulses of its running interval and of its roaming; it has what a core
-- keeps of its trip, the number of its store, and all else as the state has it
abbrev pub core_of : Setting → Meter → CoreData
core_of s m = record {
  operating = m.operating;
  clock = m.clock;
  began = m.began;
  gate = sum m.taken;
  latch = m.latch;
  position = m.position;
  zone = m.zone;
  roam = sum m.roaming;
  number = m.durable.number;
  shown = m.shown;
  trip = option_map (core_trip_of s) m.trip;
}

-- a core stands for a state if both are off, or neither is and the core is the state's
abbrev pub Stands : Setting → CoreData → Meter → Type 0
Stands s core m = (core.operating ≡ Off) × (m.operating ≡ Off) ⊎ (m.operating ≢ Off) × (core ≡ core_of s m)

-- a powered core follows an outcome of a part of an event if it is the core of the outcome's state, and the outcome's
-- acts were appended
pub record ComesToOutcome (s : Setting) (core : CoreData) (before acts : List Act) (o : Outcome) : Type 0 where
  pub state : core ≡ core_of s o.next
  pub done : acts ≡ before ++ o.acts

-- a core and acts meet an outcome if the core stands for the outcome's state and the acts are the outcome's
pub record Meets (s : Setting) (core : CoreData) (acts : List Act) (o : Outcome) : Type 0 where
  pub state : Stands s core o.next
  pub done : acts ≡ o.acts
