-- Rules: a plain text of parameters, a line for each in the order of their table, and of the offsets a line for each
-- pair.
use Rattle.{std.specs.Fmt.{decimal}, interval_clock.specs.declared.day_numbers.CalendarDate.{CalendarDate}}
use Rattle.std.specs.Prelude.{[], ℕ, ℤ, ◌++◌, ◌∷◌, ◌≤◌, All, List, codes, flat_map, map, negsuc, pos, suc, unsigned_abs}
use Rattle.interval_clock.specs.Calendar.{date_after}
use Rattle.seal_record.specs.Common.{Double, Mode, Params, Single, padded_text}

-- the word of a mode is `single` for mode S and `double` for mode D
abbrev pub mode_text : Mode → List ℕ
mode_text Single = codes "single"
mode_text Double = codes "double"

-- an offset is written in decimal, with a minus before it if it is below zero
abbrev pub offset_text : ℤ → List ℕ
offset_text (pos n) = decimal n
offset_text (negsuc n) = 45 ∷ decimal (suc n)

-- a date is written as YYYY-MM-DD
abbrev pub date_text : CalendarDate → List ℕ
date_text d = padded_text 4 d.year ++ 45 ∷ (padded_text 2 d.month ++ 45 ∷ padded_text 2 d.date)

-- the line of a key and a value has one blank between them
abbrev pub line_of : (key value : List ℕ) → List ℕ
line_of key value = key ++ 32 ∷ value

-- the line of a pair of the offsets has its second, and the offset that is in force from it on
abbrev pub offset_line : ℕ × ℤ → List ℕ
offset_line pair = line_of (codes "offset") (decimal pair.0 ++ 32 ∷ offset_text pair.1)

-- the line of the date of securing
abbrev pub secured_line : ℤ → List ℕ
secured_line day = line_of (codes "secured") (date_text (date_after (unsigned_abs day)))

-- the settings are written as a line each: the taxi, the constant, the mode and how long a trip is held
abbrev pub settings_lines : Params → List (List ℕ)
settings_lines params =
    line_of (codes "taxi") params.taxi.items
    ∷ line_of (codes "constant") (decimal params.constant)
    ∷ line_of (codes "mode") (mode_text params.mode)
    ∷ line_of (codes "hold") (decimal params.hold_time) ∷ []

-- the plain lines of parameters are one for each, and one for each pair of the offsets, in the order of the table
abbrev pub plain_lines : Params → List (List ℕ)
plain_lines params = settings_lines params ++ (map offset_line params.offsets ++ secured_line params.secured ∷ [])

-- the text of lines has an LF at the end of each
abbrev pub ended_text : List (List ℕ) → List ℕ
ended_text lines = flat_map (λ line. line ++ 10 ∷ []) lines

-- the plain text of parameters is their plain lines, each of which an LF ends
abbrev pub plain_text : Params → List ℕ
plain_text params = ended_text (plain_lines params)

-- bytes are shown if each is a blank or has a greater value
abbrev pub AreShown : List ℕ → Type 0
AreShown bytes = All (λ b. 32 ≤ b) bytes

-- the line of a comment begins with #
abbrev pub comment_line : List ℕ → List ℕ
comment_line comment = 35 ∷ comment

-- parameters are written with comments as the line of each comment, and then their plain lines
abbrev pub commented_text : (comments : List (List ℕ)) → Params → List ℕ
commented_text comments params = ended_text (map comment_line comments ++ plain_lines params)
