-- By law: what a line of a drive gives, read field by field as the code reads it. The law
-- lines_give_what_the_table_says says what a line means, by the table in Table.
use Rattle.std.specs.{List.{find, slice_split}, Option.{option_map}, Str.Lines.{strip_carriage_return}}
use Rattle.std.specs.Prelude.{[], ℕ, ◌==◌, ◌∷◌, List, None, Option, Some, codes, if◌then◌else◌, length, nat_lt}
use Rattle.taxi_units.specs.{Reading.{◌>>=◌}, Words.{is_word}}
use Rattle.drive_text.specs.Common.{Clock, Down, Event, Extra, Key, Position, Pulses, Tick, Up, Zone, first_second}
use Rattle.drive_text.specs.{Common.{last_second, number_in}, declared.run.Run.{Run, TheVariants.{Many, One}}}
use Rattle.drive_text.specs.Written.{key_text, plain_keys}
use Rattle.taxi_units.specs.declared.event.Event.TheVariants as events

-- the second of a field, if the field is a number of the meter's seconds
abbrev pub second_in : List ℕ → Option ℕ
second_in field = number_in first_second last_second field

-- the key without a number that is written as a field
unfoldable pub plain_key : List ℕ → Option Key
plain_key name = find (λ key. is_word name (key_text key)) plain_keys

-- the key of the fields P n, Z n or E n
unfoldable pub numbered_key : List ℕ → List ℕ → Option Key
numbered_key name number =
    if is_word name (codes "P") then option_map Position (number_in 0 99 number)
    else if is_word name (codes "Z") then option_map Zone (number_in 0 99 number)
    else if is_word name (codes "E") then option_map Extra (number_in 0 99 number)
    else None

-- the run of the one event that is made of what was found, if anything was
abbrev pub one : {A : Type 0} → (A → Event) → Option A → Option Run
one event found = option_map (λ x. One (event x)) found

-- the run of a line of one field, D or T
unfoldable pub run_of_one_field : List ℕ → Option Run
run_of_one_field name =
    if is_word name (codes "D") then Some (One Down)
    else if is_word name (codes "T") then Some (One Tick)
    else None

-- the run of a line of two fields: U s, C s, P p, or K with a key that has no number
unfoldable pub run_of_two_fields : List ℕ → List ℕ → Option Run
run_of_two_fields name field =
    if is_word name (codes "U") then one Up (second_in field)
    else if is_word name (codes "C") then one Clock (second_in field)
    else if is_word name (codes "P") then one Pulses (number_in 1 65535 field)
    else if is_word name (codes "K") then one events.Key (plain_key field)
    else None

-- the run of intervals that have the pulses of the first field each, as many as the second field says
abbrev pub intervals_of : List ℕ → List ℕ → Option Run
intervals_of first second = do
  pulses ← number_in 0 65535 first
  count ← number_in 1 36000 second
  Some (Many pulses count)

-- the run of a line of three fields: I p n, or K with a key that has a number
unfoldable pub run_of_three_fields : List ℕ → List ℕ → List ℕ → Option Run
run_of_three_fields name first second =
    if is_word name (codes "I") then intervals_of first second
    else if is_word name (codes "K") then one events.Key (numbered_key first second)
    else None

-- the run of a line, by how many fields it has
abbrev pub run_of_fields : List (List ℕ) → Option Run
run_of_fields [] = None
run_of_fields (name ∷ []) = run_of_one_field name
run_of_fields (name ∷ first ∷ []) = run_of_two_fields name first
run_of_fields (name ∷ first ∷ second ∷ []) = run_of_three_fields name first second
run_of_fields (name ∷ first ∷ second ∷ third ∷ more) = None

-- the runs of a line without its CR: none if it is empty or a comment, and else the one of its fields, which a blank
-- parts and which have at most 80 bytes together
unfoldable pub text_runs : List ℕ → Option (List Run)
text_runs [] = Some []
text_runs (c ∷ cs) =
    if c == 35 then Some []
    else if nat_lt 80 (length (c ∷ cs)) then None
    else option_map (λ run. run ∷ []) (run_of_fields (slice_split (λ b. b == 32) (c ∷ cs)))

-- the runs of a line without its LF, if it is a line of a drive
abbrev pub line_runs : List ℕ → Option (List Run)
line_runs line = text_runs (strip_carriage_return line)
