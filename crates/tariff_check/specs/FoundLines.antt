-- Rules: the line of a tariff that says a part of its frame, or that counts in a context.
use Rattle.{std.specs.{List.{slice_get}, Prelude.{true}}, tariff_check.specs.declared.found_lines.FramePart.{FramePart}}
use Rattle.std.specs.Prelude.{◌==◌, ◌≡◌, Bool, List, Option, Some, false, filter, find, option_and_then, option_map}
use Rattle.tariff_check.specs.Common.{ChoiceKind, ChoiceLine, Context, Entry, Line, positions, step, supplement, zones}
use Rattle.tariff_check.specs.{Kinds.{part_of}, SoundLookups.{place_in_force}, SoundTariff.{choices, is_told}}
use Rattle.tariff_check.specs.declared.found_lines.FramePart.TheVariants.{Positions, Step, Supplement, Zones}

-- the test `says` is true if an entry says a part of the frame: the display step, the positions, the zones, or the
-- supplement of a number
abbrev pub says : FramePart → Entry → Bool
says Step (step amount rounding) = true
says Positions (positions number) = true
says Zones (zones number) = true
says (Supplement wanted) (supplement number amount most) = number == wanted
says part entry = false

-- the line of a part of the frame is the first that says it, if there is one
abbrev pub frame_line : FramePart → List Line → Option Line
frame_line part lines = find (λ (l : Line). says part l.entry) lines

-- the lines of a kind are those that have the part of it, in order
abbrev pub lines_of_kind : ChoiceKind → List Line → List Line
lines_of_kind kind lines = filter (is_told (part_of kind)) lines

-- the line of a kind in force in a context is that of the first choice of the kind that holds there, if one does: both
-- have the same place among those of the kind
abbrev pub line_in_force : ChoiceKind → Context → List Line → Option Line
line_in_force kind x lines =
    option_and_then (slice_get (lines_of_kind kind lines)) (place_in_force (choices (part_of kind) lines) x)

-- a choice stands at its line if its number is that of the line at the choice's place among those of its kind
abbrev pub StandsAtItsLine : List Line → ChoiceLine → Type 0
StandsAtItsLine lines c =
    option_map (λ (l : Line). l.line) (slice_get (lines_of_kind c.kind lines) c.place_in_kind) ≡ Some c.line
