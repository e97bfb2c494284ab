-- Rules: a sound tariff as its parts.
use Rattle.std.specs.{List.{slice_get}, Option.{unwrap_or}}
use Rattle.std.specs.Prelude.{[], ℕ, ◌∷◌, ◌≡◌, ◌⊎◌, Bool, List, None, Option, Some, filter, is_some, map, true}
use Rattle.{drive_modes.specs.declared.meterage.Rounding.TheVariants.{Behind}, tariff_check.specs.Measure.{measure_of}}
use Rattle.tariff_check.specs.{Cells.{cells_of}, Common.{Tree, holiday, positions, step, supplement, when_part, zones}}
use Rattle.tariff_check.specs.Common.{ChoiceKind, Condition, Entry, Initial, Line, Minimum, Rate, Rounding, Supplement}
use Rattle.tariff_check.specs.Kinds.{InitialNumbers, RateNumbers, Said, entry_with, initial_part, minimum_part, part_of}
use Rattle.tariff_check.specs.{Kinds.{rate_part, tests_of_kinds}, Parts.{step_of, step_part, zones_of, zones_part}}
use Rattle.tariff_check.specs.Parts.{DateNumbers, holiday_part, holidays_of, parts, positions_of, positions_part}
use Rattle.tariff_check.specs.declared.choice.Choice as program
pub use Rattle.tariff_tree.specs.{Choices.{Choice, choices, conditions_of, values_of}, Meaning.{place_of}}
pub use Rattle.tariff_check.specs.Parts.{numbered_supplement, supplement_numbered}

-- the line numbers of choices are that of each, in order
abbrev pub lines_of : {V : Type 0} → List (Choice V) → List ℕ
lines_of {V} all = map (λ (c : Choice V). c.line) all

-- a sound tariff has the decimals of its money, its display step with the rounding, its positions and zones, its
-- holidays, its supplements by their numbers, the choices among its rates, initial hire fees and minimum fares, its
-- common measure and its cells
pub record SoundTariff : Type 0 where
  pub decimals : ℕ
  pub step : ℕ × Rounding
  pub positions : ℕ
  pub zones : ℕ
  pub holidays : List DateNumbers
  pub supplements : List (ℕ × Supplement)
  pub rates : List (Choice RateNumbers)
  pub initials : List (Choice InitialNumbers)
  pub minimums : List (Choice ℕ)
  pub measure : ℕ
  pub cells : ℕ

-- a tariff as its parts has what its lines say, each kind in the order of the lines
abbrev pub sound_of : Tree → SoundTariff
sound_of t =
    record {
      decimals = t.decimals;
      step = unwrap_or (step_of t.lines) (0, Behind);
      positions = positions_of t.lines;
      zones = zones_of t.lines;
      holidays = holidays_of t.lines;
      supplements = parts numbered_supplement t.lines;
      rates = choices rate_part t.lines;
      initials = choices initial_part t.lines;
      minimums = choices minimum_part t.lines;
      measure = measure_of t.lines;
      cells = cells_of t.lines;
    }

-- the choices of a kind in a tariff as its parts
abbrev pub choices_in : (kind : ChoiceKind) → SoundTariff → List (Choice (Said kind))
choices_in Rate s = s.rates
choices_in Initial s = s.initials
choices_in Minimum s = s.minimums

-- the condition of a line that may be none is the line's, if there is one and it has one
abbrev pub when_of_line : Option Line → Option Condition
when_of_line None = None
when_of_line (Some l) = when_part l.entry

-- the condition at a place among lines, counted from 0, is that of the line there, if it has one
abbrev pub when_at : List Line → (place : ℕ) → Option Condition
when_at lines place = when_of_line (slice_get lines place)

-- the values of choices of the program are that of each, in order
abbrev pub own_values : {V : Type 0} → List (program.Choice V) → List V
own_values {V} own = map (λ (c : program.Choice V). c.value) own

-- the conditions of choices of the program are those of the lines at their places, in order
abbrev pub own_conditions : {V : Type 0} → List Line → List (program.Choice V) → List (Option Condition)
own_conditions {V} lines own = map (λ (c : program.Choice V). when_at lines c.place) own

-- the line numbers of choices of the program are that of each, in order
abbrev pub own_lines : {V : Type 0} → List (program.Choice V) → List ℕ
own_lines {V} own = map (λ (c : program.Choice V). c.line) own

-- choices of the program are those among some lines if they have the same values and line numbers, in order, and the
-- lines at their places have the same conditions
pub record AreChoices {V : Type 0} (lines : List Line) (own : List (program.Choice V))
    (all : List (Choice V)) : Type 0 where
  pub values : own_values own ≡ values_of all
  pub conditions : own_conditions lines own ≡ conditions_of all
  pub numbers : own_lines own ≡ lines_of all

-- what is said of a supplement or a holiday makes an entry again
abbrev pub supplement_entry : ℕ × Supplement → Entry
supplement_entry said = supplement said.0 said.1.amount said.1.max

abbrev pub holiday_entry : DateNumbers → Entry
holiday_entry d = holiday d.year d.month d.date

-- the line of a choice has its number, and the entry that is made of its value and its condition
abbrev pub line_with : {V : Type 0} → (V → Option Condition → Entry) → Choice V → Line
line_with entry c = record { line = c.line; entry = entry c.value c.when }

-- the test `is_told` is true if a line is of the kind that a part is of
abbrev pub is_told : {A : Type 0} → (Entry → Option A) → Line → Bool
is_told part l = is_some (part l.entry)

-- the entries of a kind among lines are those of the lines of the kind, in order
abbrev pub entries_told : {A : Type 0} → (Entry → Option A) → List Line → List Entry
entries_told part lines = map (λ (l : Line). l.entry) (filter (is_told part) lines)

-- a tariff as its parts has all lines that may have a condition, kind by kind, with their numbers, and all holidays and
-- supplements
pub record HasAllLines (t : Tree) (s : SoundTariff) : Type 0 where
  pub choices : (kind : ChoiceKind)
      → map (line_with (entry_with kind)) (choices_in kind s) ≡ filter (is_told (part_of kind)) t.lines
  pub supplements : map supplement_entry s.supplements ≡ entries_told numbered_supplement t.lines
  pub holidays : map holiday_entry s.holidays ≡ entries_told holiday_part t.lines

-- the tests of an entry are whether it is the display step, says the positions or the zones, is a holiday or a
-- supplement, or is of each kind that may have a condition
abbrev pub tests_of : Entry → List Bool
tests_of entry =
    is_some (step_part entry) ∷ is_some (positions_part entry) ∷ is_some (zones_part entry)
    ∷ is_some (holiday_part entry) ∷ is_some (numbered_supplement entry) ∷ tests_of_kinds entry

-- an entry is in one part if exactly one of its tests is true
abbrev pub IsInOnePart : Entry → Type 0
IsInOnePart entry = filter (λ (b : Bool). b) (tests_of entry) ≡ true ∷ []

-- a number is told once by entries if one entry says it, or if there is none and the number is 1
abbrev pub IsToldOnce : (ℕ → Entry) → ℕ → List Entry → Type 0
IsToldOnce entry n entries = (entries ≡ entry n ∷ []) ⊎ ((entries ≡ []) × (n ≡ 1))

-- the frame of a sound tariff is told once: its display step by one line, and its positions and its zones by one line
-- each, or by none if there is one of them
pub record HasFrame (t : Tree) (s : SoundTariff) : Type 0 where
  pub step : entries_told step_part t.lines ≡ step s.step.0 s.step.1 ∷ []
  pub positions : IsToldOnce positions s.positions (entries_told positions_part t.lines)
  pub zones : IsToldOnce zones s.zones (entries_told zones_part t.lines)
