-- Rules: the lines of a drive, as a table.
use Rattle.std.specs.Prelude.{[], ℕ, ◌++◌, ◌∷◌, Contains, List, codes}
use Rattle.drive_text.specs.Common.{Clock, Down, Extra, IsNumberIn, Key, Position, Pulses, Tick, Up, Zone, first_second}
use Rattle.drive_text.specs.{Common.{last_second}, declared.run.Run.{Run, TheVariants.{Many, One}}}
use Rattle.drive_text.specs.Written.{key_text, plain_keys}
use Rattle.taxi_units.specs.declared.event.Event.TheVariants as events

-- a line without its line end means no run if it is empty or a comment, and else the one run that its word and its
-- numbers say
pub data Means : List ℕ → List Run → Type 0 where
  empty : Means [] []
  comment : (text : List ℕ) → Means (codes "#" ++ text) []
  up : (s : ℕ) (digits : List ℕ) → IsNumberIn first_second last_second digits s
      → Means (codes "U " ++ digits) (One (Up s) ∷ [])
  down : Means (codes "D") (One Down ∷ [])
  clock : (s : ℕ) (digits : List ℕ) → IsNumberIn first_second last_second digits s
      → Means (codes "C " ++ digits) (One (Clock s) ∷ [])
  pulses : (p : ℕ) (digits : List ℕ) → IsNumberIn 1 65535 digits p → Means (codes "P " ++ digits) (One (Pulses p) ∷ [])
  tick : Means (codes "T") (One Tick ∷ [])
  intervals : (p n : ℕ) (first second : List ℕ) → IsNumberIn 0 65535 first p → IsNumberIn 1 36000 second n
      → Means (codes "I " ++ (first ++ (codes " " ++ second))) (Many p n ∷ [])
  plain : (key : Key) → Contains plain_keys key → Means (codes "K " ++ key_text key) (One (events.Key key) ∷ [])
  position : (n : ℕ) (digits : List ℕ) → IsNumberIn 0 99 digits n
      → Means (codes "K P " ++ digits) (One (events.Key (Position n)) ∷ [])
  zone : (n : ℕ) (digits : List ℕ) → IsNumberIn 0 99 digits n
      → Means (codes "K Z " ++ digits) (One (events.Key (Zone n)) ∷ [])
  extra : (n : ℕ) (digits : List ℕ) → IsNumberIn 0 99 digits n
      → Means (codes "K E " ++ digits) (One (events.Key (Extra n)) ∷ [])
