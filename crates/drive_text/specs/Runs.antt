-- Rules: the events of a run.
use Rattle.std.specs.Prelude.{[], ℕ, ◌++◌, ◌==◌, ◌∷◌, List, if◌then◌else◌, suc, zero}
use Rattle.drive_text.specs.{Common.{Event, Pulses, Tick}, declared.run.Run.{Run, TheVariants.{Many, One}}}

-- a measuring interval has the event of its pulses, if it has any, and then the tick at its end
abbrev pub interval_events : ℕ → List Event
interval_events pulses = if pulses == 0 then Tick ∷ [] else Pulses pulses ∷ Tick ∷ []

-- `count` intervals with the same number of pulses each have the events of one such interval, `count` times
abbrev pub intervals_events : ℕ → ℕ → List Event
intervals_events pulses zero = []
intervals_events pulses (suc count) = interval_events pulses ++ intervals_events pulses count

-- a run has its one event, or the events of its equal intervals
abbrev pub run_events : Run → List Event
run_events (One event) = event ∷ []
run_events (Many pulses count) = intervals_events pulses count
