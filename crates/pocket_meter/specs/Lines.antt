-- Rules: which event a line of standard input says, and which events all lines say.
use Rattle.{std.specs.{Iterator.{Drains}, Prelude.{option_map, string_bytes}}, taxi_units.specs.Reading.{word_at}}
use Rattle.std.specs.Prelude.{ℕ, ◌≡◌, Err, List, None, Ok, Option, Result, Some, String, codes, if◌then◌else◌, map}
use Rattle.taxi_units.specs.{Number.{number_in}, declared.event.Event.TheVariants.{Down, Pulses, Tick, Up}}
use Rattle.taxi_units.specs.{Time.{first_second, last_second}, declared.event.Key.TheVariants.{Clear, Hire, Stop}}
use Rattle.{taxi_units.specs.Words.{is_word}, pocket_meter.specs.Common.{Event}}
use Rattle.taxi_units.specs.declared.event.Event.TheVariants as events

-- the second of what stands behind `up `, if anything does, is a number of the meter's seconds
abbrev pub up_said : Option (List ℕ) → Option Event
up_said None = None
up_said (Some rest) = option_map Up (number_in first_second last_second rest)

-- the count of what stands behind `pulses `, if anything does, is 1 to 65,535; else the line may say `up `
abbrev pub pulses_said : Option (List ℕ) → (line : List ℕ) → Option Event
pulses_said None line = up_said (word_at (codes "up ") line)
pulses_said (Some rest) line = option_map Pulses (number_in 1 65535 rest)

-- a line says the event that it names
unfoldable pub event_said : (line : List ℕ) → Option Event
event_said line =
    if is_word line (codes "down") then Some Down
    else if is_word line (codes "tick") then Some Tick
    else if is_word line (codes "hire") then Some (events.Key Hire)
    else if is_word line (codes "stop") then Some (events.Key Stop)
    else if is_word line (codes "clear") then Some (events.Key Clear)
    else pulses_said (word_at (codes "pulses ") line) line

-- a line that was read says the event that it names, and one that wasn't read says none
abbrev pub line_said : {Z E : Type 0} → Result (String Z) E → Option Event
line_said (Ok line) = event_said (string_bytes line)
line_said (Err why) = None

-- events are those of all lines if the lines came one after the other up to the last, and each says the event at its
-- place
pub record AreSaidByAll {S Z E : Type 0} (next_gives : S → Option (Result (String Z) E) → S → Type 0) (lines : S)
    (events : List Event) : Type 0 where
  pub read : List (Result (String Z) E)
  pub to_the_last : Drains next_gives lines read
  pub said : map line_said read ≡ map Some events
