-- Rules: the lines of a tariff, and the first context of a meter in which each counts.
use Rattle.{std.specs.Prelude.{ℕ, List, None, Option, Some, map}, tariff_compare.specs.declared.uses.LineUse.{LineUse}}
use Rattle.tariff_check.specs.{ChoiceLines.{choice_lines}, declared.choice.ChoiceLine.{ChoiceLine}}
use Rattle.tariff_compare.specs.{Common.{ChoiceKind, Counts, IsFromTo, MeterContext, Tree}, Sides.{SideParts, side_of}}
use Rattle.tariff_compare.specs.Searches.{first_met_by}

-- the first context of a meter in which the line of a kind at a place counts, by the tables of the tariff, or none; the
-- law `first_contexts_are_first` says that it is the first one of the meter
abbrev pub first_counting : SideParts → ChoiceKind → (place : ℕ) → Option MeterContext
first_counting side kind place = first_met_by side side (Counts kind place)

-- the use of the line of a choice is its number, its kind and the first context in which it counts
abbrev pub use_of : SideParts → ChoiceLine → LineUse
use_of side c = record { line = c.line; kind = c.kind; first = first_counting side c.kind c.place_in_kind }

-- a context that may be none is dated if its day is one of the meter's
abbrev pub IsDated : Option MeterContext → Type 0
IsDated None = Unit {0}
IsDated (Some m) = IsFromTo 10956 84006 m.day

-- the use of a line is dated if its context is
abbrev pub IsDatedUse : LineUse → Type 0
IsDatedUse u = IsDated u.first

-- the uses of a tariff's lines under a constant are those of the lines of its choices, in order
abbrev pub uses_of : Tree → (k : ℕ) → List LineUse
uses_of t k = map (use_of (side_of t k)) (choice_lines t.lines)
