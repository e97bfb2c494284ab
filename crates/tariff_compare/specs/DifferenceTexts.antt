-- Rules: the text of what differs first between two tariffs.
use Rattle.std.specs.Prelude.{[], ℕ, ◌++◌, List, None, Option, Some, codes, decimal}
use Rattle.{tariff_tree.specs.Tree.{Line, without_when}, tariff_syntax.specs.Printed.{entry_line, number_line}}
use Rattle.{tariff_check.specs.FoundLines.{frame_line, line_in_force}, tariff_compare.specs.Common.{Zones}}
use Rattle.tariff_compare.specs.Common.{Decimals, Difference, In, IsFromTo, Positions, Rounded, Step, Supplement, Tree}
use Rattle.tariff_compare.specs.{Contexts.{context_at}, Kinds.{part_word}, Texts.{context_text}}
use Rattle.tariff_check.specs.declared.found_lines.FramePart.TheVariants as frame

-- what differs is told by a word, for a supplement with its number, and in a context with the context
abbrev pub part_text : Difference → List ℕ
part_text Decimals = codes "DECIMALS"
part_text Step = codes "STEP"
part_text Rounded = codes "ROUNDING"
part_text Positions = codes "POSITIONS"
part_text Zones = codes "ZONES"
part_text (Supplement number) = codes "SUPPLEMENT " ++ decimal number
part_text (In kind m) = part_word kind ++ context_text kind m

-- the line of a tariff that says what differs is, in a context, the one of its kind in force there, and in the frame
-- the one of its part; no line of a tree says the decimals
abbrev pub line_of_difference : Tree → (k : ℕ) → Difference → Option Line
line_of_difference t k Decimals = None
line_of_difference t k Step = frame_line frame.Step t.lines
line_of_difference t k Rounded = frame_line frame.Step t.lines
line_of_difference t k Positions = frame_line frame.Positions t.lines
line_of_difference t k Zones = frame_line frame.Zones t.lines
line_of_difference t k (Supplement number) = frame_line (frame.Supplement number) t.lines
line_of_difference t k (In kind m) = line_in_force kind (context_at t k m) t.lines

-- what holds if no line says it is written with the number 0: one position, one zone, or none of the kind
abbrev pub default_text : Difference → List ℕ
default_text Positions = codes "0 positions 1\n"
default_text Zones = codes "0 zones 1\n"
default_text d = codes "0 none\n"

-- a line is written as its number and its printed form up to `when`; if there is none, the default is written
abbrev pub line_text : (decimals : ℕ) → (default : List ℕ) → Option Line → List ℕ
line_text decimals default None = default
line_text decimals default (Some l) = decimal l.line ++ (codes " " ++ entry_line decimals (without_when l.entry) [])

-- a tariff's line of what differs is written; that of its decimals has no number, since a tree doesn't keep one
abbrev pub side_text : Tree → (k : ℕ) → Difference → List ℕ
side_text t k Decimals = number_line (codes "decimals ") t.decimals []
side_text t k d = line_text t.decimals (default_text d) (line_of_difference t k d)

-- the text of two tariffs is `SAME`, or what differs first and the line of each
abbrev pub comparison_text : (t u : Tree) (k : ℕ) → Option Difference → List ℕ
comparison_text t u k None = codes "SAME\n"
comparison_text t u k (Some d) =
    codes "DIFFERENT " ++ (part_text d ++ (codes "\n" ++ (side_text t k d ++ side_text u k d)))

-- what differs is dated if it is of the frame, or its context is on a day of the meter's
abbrev pub IsDatedDifference : Difference → Type 0
IsDatedDifference (In kind m) = IsFromTo 10956 84006 m.day
IsDatedDifference d = Unit {0}

-- a difference that may be none is dated if it is none, or is dated
abbrev pub IsDatedOrNone : Option Difference → Type 0
IsDatedOrNone None = Unit {0}
IsDatedOrNone (Some d) = IsDatedDifference d
