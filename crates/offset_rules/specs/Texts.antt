-- Rules: the texts that are written, which are the lines of a list of offsets and a plain text of rules.
use Rattle.std.specs.{Fmt.{decimal}, Prelude.{ℕ, ℤ, ◌%◌, ◌++◌, ◌/◌, ◌∷◌, List, codes, flat_map, negsuc, pos, suc}}
use Rattle.{taxi_units.specs.Number.{padded_text}, offset_rules.specs.Names.{month_names, name_of, number_names}}
use Rattle.offset_rules.specs.{Common.{day_names}, Rule.{Change, Rule}}

-- an offset is written in decimal seconds, with a minus before them if it is below zero
abbrev pub offset_text : ℤ → List ℕ
offset_text (pos n) = decimal n
offset_text (negsuc n) = 45 ∷ decimal (suc n)

-- the line of a pair says its second and the offset that is in force from that second on
abbrev pub offset_line : ℕ × ℤ → List ℕ
offset_line pair = codes "offset " ++ (decimal pair.0 ++ (codes " " ++ (offset_text pair.1 ++ codes "\n")))

-- a list of offsets is written as the line of each of its pairs, in order
unfoldable pub offset_lines : List (ℕ × ℤ) → List ℕ
offset_lines pairs = flat_map offset_line pairs

-- a minute of the day is written HH:MM
abbrev pub time_text : (minute : ℕ) → List ℕ
time_text minute = padded_text 2 (minute / 60) ++ (codes ":" ++ padded_text 2 (minute % 60))

-- a change is written by the names of its number, its weekday and its month, and its time, with blanks between them
abbrev pub change_text : Change → List ℕ
change_text change =
    name_of number_names change.number
    ++ (codes " " ++ (name_of day_names change.weekday
    ++ (codes " " ++ (name_of month_names change.month
    ++ (codes " " ++ time_text change.minute)))))

-- the plain text of a rule is its four lines, each ended by an LF
abbrev pub plain_text : Rule → List ℕ
plain_text rule =
    (codes "standard " ++ offset_text rule.standard) ++ 10
    ∷ ((codes "summer " ++ offset_text rule.summer) ++ 10
    ∷ ((codes "begin " ++ change_text rule.begin) ++ 10
    ∷ ((codes "end " ++ change_text rule.end) ++ codes "\n")))
