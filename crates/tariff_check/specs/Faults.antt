-- Rules: the faults of a tariff, in their order.
use Rattle.std.specs.{List.{list_any}, Option.{option_or}, Prelude.{nat_lt, not, true}}
use Rattle.std.specs.Prelude.{[], ℕ, ◌++◌, ◌==◌, ◌^◌, ◌∷◌, ◌≡◌, All, Bool, List, None, Option, Some, false, is_none}
use Rattle.tariff_check.specs.Cells.{cells_of}
use Rattle.tariff_check.specs.Common.{AmountTooBig, BadDate, CheckFault, Dimension, Distance, Duplicate, Entry, Line}
use Rattle.tariff_check.specs.Common.{LineAfterDefault, MeasureZero, Minute, MonthDay, NoCommonMeasure}
use Rattle.tariff_check.specs.Common.{NoDefaultInitial, NoDefaultRate, NoStep, Rounding, StepZero, Time, TooManyCells}
use Rattle.tariff_check.specs.Common.{TooManyCuts, TooManyLines, Tree, UnknownNumber, choices, conditions_of}
use Rattle.tariff_check.specs.{Cuts.{count_of, most_cuts}, Lines.{is_duplicate, is_one_too_many, names_unknown}}
use Rattle.tariff_check.specs.Lines.{first_line, has_bad_date, has_great_amount, has_measure_zero, is_after_default}
use Rattle.tariff_check.specs.{Measure.{measure_of}, Parts.{initial_part, positions_of, rate_part, step_of, zones_of}}

-- a fault is there if its test is true
abbrev pub fault_if : Bool → CheckFault → Option CheckFault
fault_if true fault = Some fault
fault_if false fault = None

-- a fault is there with the number of a line, if there is such a line
abbrev pub fault_at : (ℕ → CheckFault) → Option ℕ → Option CheckFault
fault_at fault None = None
fault_at fault (Some line) = Some (fault line)

-- the test `is_step_zero` is true if there is a display step, and it is 0
abbrev pub is_step_zero : Option (ℕ × Rounding) → Bool
is_step_zero None = false
is_step_zero (Some s) = s.0 == 0

-- the fault TooManyCuts is there if a dimension has more cuts than it may have
abbrev pub cuts_fault : List Line → Dimension → Option CheckFault
cuts_fault lines dimension =
    fault_if (nat_lt (most_cuts dimension) (count_of dimension lines))
    (TooManyCuts dimension (count_of dimension lines))

-- the test `has_default` is true if one of the lines of a kind has no condition
abbrev pub has_default : {V : Type 0} → (Entry → Option V) → List Line → Bool
has_default part lines = list_any is_none (conditions_of (choices part lines))

-- the faults of the display step, each there or not
abbrev pub step_faults : List Line → List (Option CheckFault)
step_faults ls =
    fault_if (is_none (step_of ls)) NoStep
    ∷ fault_if (is_step_zero (step_of ls)) StepZero
    ∷ []

-- the faults of a line that is there too often, or that names what the tariff doesn't have
abbrev pub line_faults : List Line → List (Option CheckFault)
line_faults ls =
    fault_at Duplicate (first_line is_duplicate ls)
    ∷ fault_at TooManyLines (first_line is_one_too_many ls)
    ∷ fault_at UnknownNumber (first_line (names_unknown (positions_of ls) (zones_of ls)) ls)
    ∷ []

-- the faults of a default that is missing, and of a line after it
abbrev pub default_faults : List Line → List (Option CheckFault)
default_faults ls =
    fault_if (not (has_default rate_part ls)) NoDefaultRate
    ∷ fault_if (not (has_default initial_part ls)) NoDefaultInitial
    ∷ fault_at LineAfterDefault (first_line is_after_default ls)
    ∷ []

-- the faults of a line with a number that it may not have
abbrev pub number_faults : List Line → List (Option CheckFault)
number_faults ls =
    fault_at BadDate (first_line has_bad_date ls)
    ∷ fault_at AmountTooBig (first_line has_great_amount ls)
    ∷ fault_at MeasureZero (first_line has_measure_zero ls)
    ∷ []

-- the faults before those of cuts, each there or not, stand in the order of the table of faults
abbrev pub faults_before_cuts : List Line → List (Option CheckFault)
faults_before_cuts ls =
    step_faults ls ++ (line_faults ls ++ (default_faults ls ++ (number_faults ls
    ++ fault_if (nat_lt (10 ^ 18) (measure_of ls)) NoCommonMeasure ∷ [])))

-- the last faults, each there or not, are those of the cuts of each dimension, and of the number of cells
abbrev pub faults_from_cuts : List Line → List (Option CheckFault)
faults_from_cuts ls =
    cuts_fault ls MonthDay
    ∷ cuts_fault ls Minute
    ∷ cuts_fault ls Distance
    ∷ cuts_fault ls Time
    ∷ fault_if (nat_lt 64512 (cells_of ls)) (TooManyCells (cells_of ls))
    ∷ []

-- all faults, each there or not, are those before the cuts, and then those of cuts and of cells
abbrev pub faults_of : List Line → List (Option CheckFault)
faults_of ls = faults_before_cuts ls ++ faults_from_cuts ls

-- a list of faults that are each there or not has none
abbrev pub HasNone : List (Option CheckFault) → Type 0
HasNone faults = All (λ (f : Option CheckFault). f ≡ None) faults

-- the first of a list of values that are each there or not is the first that is there
abbrev pub first_some : {A : Type 0} → List (Option A) → Option A
first_some [] = None
first_some (x ∷ xs) = option_or x (first_some xs)

-- the fault of a tariff is the first, in the order of all faults, that is there
abbrev pub fault_of : Tree → Option CheckFault
fault_of t = first_some (faults_of t.lines)

-- a tariff is sound if none of the faults is there
abbrev pub IsSound : Tree → Type 0
IsSound t = HasNone (faults_of t.lines)
