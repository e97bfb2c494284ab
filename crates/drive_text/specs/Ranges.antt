-- Rules: the numbers that a drive may have.
use Rattle.std.specs.Prelude.{⊤, ◌≤◌}
use Rattle.taxi_units.specs.{Time.{IsSecond}, declared.event.Event.TheVariants.{Key}}
use Rattle.drive_text.specs.Common.{Clock, Down, Event, Extra, Position, Pulses, Tick, Up, Zone}
use Rattle.drive_text.specs.declared.run.Run.{Run, TheVariants.{Many, One}}
use Rattle.taxi_units.specs.declared.event.Key as keys

-- a key is in range if its number, if it has one, is at most 99
abbrev pub IsKeyInRange : keys.Key → Type 0
IsKeyInRange (Position number) = number ≤ 99
IsKeyInRange (Zone number) = number ≤ 99
IsKeyInRange (Extra number) = number ≤ 99
IsKeyInRange key = ⊤

-- an event is in range if a line of a drive can say it: its second is one of the meter's, its pulses are 1 to 65,535,
-- its key is in range
abbrev pub IsInRange : Event → Type 0
IsInRange (Up second) = IsSecond second
IsInRange Down = ⊤
IsInRange (Pulses pulses) = (1 ≤ pulses) × (pulses ≤ 65535)
IsInRange Tick = ⊤
IsInRange (Clock second) = IsSecond second
IsInRange (Key key) = IsKeyInRange key

-- a run is in range if a line of a drive can say it: its event is in range, or its intervals are 1 to 36,000 with at
-- most 65,535 pulses each
abbrev pub IsRunInRange : Run → Type 0
IsRunInRange (One event) = IsInRange event
IsRunInRange (Many pulses count) = (pulses ≤ 65535) × (1 ≤ count) × (count ≤ 36000)
