-- Rules: whether the supply is there behind events, and what the supply drop at the end of a drive may take.
use Rattle.std.specs.Prelude.{[], ℕ, ◌∷◌, ◌≡◌, Bool, List, false, if◌then◌else◌, true}
use Rattle.meter_run.specs.Common.{Clock, CoreData, Down, Event, Key, Off, Pulses, Tick, Up}

-- the test `is_supplied_after` is true if the supply is there after an event: an `Up` brings it, a `Down` takes it
-- away, and any other event leaves it as it was before, which `before` says
abbrev pub is_supplied_after : (before : Bool) → Event → Bool
is_supplied_after before (Up second) = true
is_supplied_after before Down = false
is_supplied_after before (Pulses count) = before
is_supplied_after before Tick = before
is_supplied_after before (Clock second) = before
is_supplied_after before (Key key) = before

-- the test `is_supplied` is true if the supply is there behind a list of events, and `before` says whether it was there
-- before them
abbrev pub is_supplied : (before : Bool) → List Event → Bool
is_supplied before [] = before
is_supplied before (event ∷ events) = is_supplied (is_supplied_after before event) events

-- the supply drop behind the events of a drive takes at most so many steps: 64 if the supply is there then, and else
-- none; before a drive it isn't there
abbrev pub drop_steps : List Event → ℕ
drop_steps events = if is_supplied false events then 64 else 0

-- a core is off without the supply if it is in Off or the supply is there, which `supplied` says
abbrev pub IsOffWithout : (supplied : Bool) → CoreData → Type 0
IsOffWithout supplied core = supplied ≡ false → core.operating ≡ Off

-- events keep a core off without the supply if a core that was so before them is so behind them
abbrev pub StaysOff : (old : CoreData) → List Event → (new : CoreData) → Type 0
StaysOff old events new =
    (before : Bool) → IsOffWithout before old → IsOffWithout (is_supplied before events) new
