-- Rules: the generated drive, as the lines that it has, with its draws, its time, and its trips.
use Rattle.std.specs.Prelude.{[], ℕ, ◌%◌, ◌*◌, ◌++◌, ◌+◌, ◌/◌, ◌==◌, ◌^◌, ◌∷◌, List, codes, decimal, flat_map}
use Rattle.std.specs.Prelude.{if◌then◌else◌, replicate}
use Rattle.{taxi_units.specs.declared.event.Event.TheVariants.{Clock}, verify_bench.specs.Common.{event_text}}
use Rattle.verify_bench.specs.Common.{Clear, Down, Extra, Hire, Key, Many, One, Position, Run, Stop, Up, Zone}
use Rattle.taxi_units.specs.declared.event.Event.TheVariants as events

-- the place of the generator is the state of its draws, and the time since its beginning, in tenths of a second
pub record Place : Type 0 where
  pub state : ℕ
  pub tenths : ℕ

-- what is written is lines, and the place at which the generator stands behind them
pub record Written : Type 0 where
  pub next : Place
  pub lines : List Run

-- more is written behind what was written, from the place at which the generator then stands
abbrev pub and_then : Written → (Place → Written) → Written
and_then written more =
    record { next = (more written.next).next; lines = written.lines ++ (more written.next).lines }

-- nothing is written if there are no lines and the generator stays at its place
abbrev pub nothing : Place → Written
nothing place = record { next = place; lines = [] }

-- parts are written in turn if each begins at the place at which the one before it ended
unfoldable pub in_turn : List (Place → Written) → Place → Written
in_turn [] place = nothing place
in_turn (part ∷ parts) place = and_then (part place) (in_turn parts)

-- a line is written alone, and takes no time by itself
abbrev pub line : Run → Place → Written
line run place = record { next = place; lines = run ∷ [] }

-- a draw takes the state to the next one of a linear congruential generator of 64 bits
abbrev pub next_state : ℕ → ℕ
next_state state = (state * 6364136223846793005 + 1442695040888963407) % 2 ^ 64

-- a draw leaves the generator at the next state, and takes no time
abbrev pub drawn : Place → Place
drawn place = record place { state = next_state place.state }

-- the draw that led to a place gives a value below a number, from the bits of the state from bit 33 on
abbrev pub value : (below : ℕ) → Place → ℕ
value below place = (place.state / 2 ^ 33) % below

-- a place is later by some tenths of a second, with its state as it was
abbrev pub later : (tenths : ℕ) → Place → Place
later tenths place = record place { tenths = place.tenths + tenths }

-- a place has the second of its time in a drive that begins at 2026-03-01T23:00:00Z
abbrev pub second_of : Place → ℕ
second_of place = 1772406000 + place.tenths / 10

-- the clock is read at the second of the place
abbrev pub clock_read : Place → Written
clock_read place = line (One (Clock (second_of place))) place

-- a number of intervals, each with the same number of pulses, is a line, and takes a tenth of a second an interval
abbrev pub intervals : (pulses count : ℕ) → Place → Written
intervals pulses count place = line (Many pulses count) (later count place)

-- a key is pressed, and an interval without pulses follows
abbrev pub key_pressed : Key → Place → Written
key_pressed key place = in_turn (line (One (events.Key key)) ∷ intervals 0 1 ∷ []) place

-- the way to a trip is 100 to 999 intervals of 10 pulses
abbrev pub way : Place → Written
way place = intervals 10 (100 + value 900 (drawn place)) (drawn place)

-- roaming is a reading of the clock, and the way to the trip
abbrev pub roamed : Place → Written
roamed place = in_turn (clock_read ∷ way ∷ []) place

-- one of the tariff positions 1 and 2 is chosen
abbrev pub position_chosen : Place → Written
position_chosen place = key_pressed (Position (1 + value 2 (drawn place))) (drawn place)

-- one of the zones 1 and 2 is chosen
abbrev pub zone_chosen : Place → Written
zone_chosen place = key_pressed (Zone (1 + value 2 (drawn place))) (drawn place)

-- the road of a leg is 50 to 1,049 intervals of 0 to 16 pulses each
abbrev pub road : Place → Written
road place = intervals (value 17 (drawn place)) (50 + value 1000 (drawn (drawn place))) (drawn (drawn place))

-- a leg is its road, and a reading of the clock
abbrev pub leg : Place → Written
leg place = in_turn (road ∷ clock_read ∷ []) place

-- a trip is driven in one to five legs
abbrev pub driven : Place → Written
driven place = in_turn (replicate (1 + value 5 (drawn place)) leg) (drawn place)

-- one of the supplements 1 to 3 is chosen
abbrev pub extra_chosen : Place → Written
extra_chosen place = key_pressed (Extra (1 + value 3 (drawn place))) (drawn place)

-- one trip of four has a supplement
abbrev pub extra_perhaps : Place → Written
extra_perhaps place = if value 4 (drawn place) == 0 then extra_chosen (drawn place) else nothing (drawn place)

-- the supply stays away for 0 to 119 seconds
abbrev pub away : Place → Place
away place = later (10 * value 120 (drawn place)) (drawn place)

-- the supply comes back at the second until which it stays away
abbrev pub came_back : Place → Written
came_back place = line (One (Up (second_of (away place)))) (away place)

-- the supply drops, and comes again
abbrev pub supply_away : Place → Written
supply_away place = in_turn (line (One Down) ∷ came_back ∷ []) place

-- in one trip of five the supply drops
abbrev pub drop_perhaps : Place → Written
drop_perhaps place = if value 5 (drawn place) == 0 then supply_away (drawn place) else nothing (drawn place)

-- a trip is roaming, a tariff position, a zone, the key Hire, its legs, perhaps a supplement and a drop of the supply,
-- and the keys Stop and Clear
abbrev pub trip : Place → Written
trip place = in_turn
    (roamed ∷ position_chosen ∷ zone_chosen ∷ key_pressed Hire ∷ driven ∷ extra_perhaps ∷ drop_perhaps
    ∷ key_pressed Stop ∷ key_pressed Clear ∷ [])
    place

-- `count` trips are written one after another
abbrev pub trips_from : (count : ℕ) → Place → Written
trips_from count place = in_turn (replicate count trip) place

-- the generator begins with the seed as its state, at time 0
abbrev pub beginning : (seed : ℕ) → Place
beginning seed = record { state = seed; tenths = 0 }

-- the generated drive has the lines of the supply that comes, and of its trips
abbrev pub generated_lines : (seed trips : ℕ) → List Run
generated_lines seed trips = One (Up (second_of (beginning seed))) ∷ (trips_from trips (beginning seed)).lines

-- a line is written as its event, or as `I`, the pulses of an interval and the number of intervals
unfoldable pub line_text : Run → List ℕ
line_text (One event) = event_text event
line_text (Many pulses count) = codes "I " ++ (decimal pulses ++ (codes " " ++ (decimal count ++ codes "\n")))

-- lines have the text of each of them, one behind the other
abbrev pub lines_text : List Run → List ℕ
lines_text lines = flat_map line_text lines

-- the generated drive has the bytes of its lines
abbrev pub generated : (seed trips : ℕ) → List ℕ
generated seed trips = lines_text (generated_lines seed trips)

-- the file of word 0 is the drive, and the file of each other word is empty
abbrev pub rest_of : (drive : List ℕ) → (word : ℕ) → List ℕ
rest_of drive word = if word == 0 then drive else []
