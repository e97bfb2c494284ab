-- Rules: the line that is written for an event, and the keys that are written without a number.
use Rattle.std.specs.Prelude.{[], ℕ, ◌++◌, ◌∷◌, List, codes, decimal, flat_map}
use Rattle.taxi_units.specs.declared.event.Key.TheVariants.{Clear, Hire, Stop}
use Rattle.drive_text.specs.Common.{Clock, Down, Event, Extra, Key, Position, Pulses, Tick, Up, Zone}
use Rattle.taxi_units.specs.declared.event.Event.TheVariants as events

-- a key is written by its letter, and by its number in decimal if it has one
unfoldable pub key_text : Key → List ℕ
key_text Hire = codes "H"
key_text Stop = codes "S"
key_text Clear = codes "C"
key_text (Position number) = codes "P " ++ decimal number
key_text (Zone number) = codes "Z " ++ decimal number
key_text (Extra number) = codes "E " ++ decimal number

-- the keys without a number are Hire, Stop and Clear
abbrev pub plain_keys : List Key
plain_keys = Hire ∷ Stop ∷ Clear ∷ []

-- an event is written by its letter and its number or key, with a blank between them
unfoldable pub event_fields : Event → List ℕ
event_fields (Up second) = codes "U " ++ decimal second
event_fields Down = codes "D"
event_fields (Pulses pulses) = codes "P " ++ decimal pulses
event_fields Tick = codes "T"
event_fields (Clock second) = codes "C " ++ decimal second
event_fields (events.Key key) = codes "K " ++ key_text key

-- the line of an event is its fields, without leading zeros, and an LF
abbrev pub event_text : Event → List ℕ
event_text event = event_fields event ++ codes "\n"

-- the drive of events has the line of each, in their order
abbrev pub drive_of : List Event → List ℕ
drive_of events = flat_map event_text events
