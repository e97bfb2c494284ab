-- Rules: the range of the meter's seconds, counted from 1970-01-01T00:00Z, and the longest trip.
use Rattle.std.specs.Prelude.{ℕ, ◌≤◌}

-- the first second of the meter is 2000-01-01T00:00:00Z
abbrev pub first_second : ℕ
first_second = 946684800

-- the last second of the meter is 2199-12-31T23:59:59Z
abbrev pub last_second : ℕ
last_second = 7258118399

-- a second of the meter is one from 2000-01-01T00:00:00Z to 2199-12-31T23:59:59Z
abbrev pub IsSecond : ℕ → Type 0
IsSecond second = (first_second ≤ second) × (second ≤ last_second)

-- the longest trip has 8,640,000 measuring intervals of 0.1 s, which are ten days
abbrev pub longest_trip : ℕ
longest_trip = 8640000

-- a trip between two events has passed at most this many ticks, one fewer than the longest trip
abbrev pub last_tick : ℕ
last_tick = 8639999
