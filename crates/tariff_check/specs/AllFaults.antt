-- Rules: all faults of a tariff. Faults has each of them.
use Rattle.std.specs.{List.{filter_map}, Prelude.{[], ℕ, ◌∷◌, List, Option}}
use Rattle.tariff_check.specs.Common.{AmountTooBig, BadDate, CheckFault, Distance, Duplicate, Line, LineAfterDefault}
use Rattle.tariff_check.specs.Common.{MeasureZero, Minute, MonthDay, NoCommonMeasure, NoDefaultInitial, NoDefaultRate}
use Rattle.tariff_check.specs.Common.{NoMemory, NoStep, StepZero, Time, TooManyCells, TooManyCuts, TooManyLines}
use Rattle.tariff_check.specs.{Common.{UnknownNumber}, Faults.{faults_before_cuts, faults_from_cuts}}

-- of values that are each there or not, those that are there, in order
abbrev pub those_there : {A : Type 0} → List (Option A) → List A
those_there {A} xs = filter_map (λ (x : Option A). x) xs

-- some faults, or others if there are none of these
abbrev pub or_others : List CheckFault → List CheckFault → List CheckFault
or_others [] others = others
or_others (fault ∷ faults) others = fault ∷ faults

-- all faults of lines are those before the faults of cuts, or, if there is none of them, those of cuts and cells
abbrev pub all_faults : List Line → List CheckFault
all_faults ls = or_others (those_there (faults_before_cuts ls)) (those_there (faults_from_cuts ls))

-- the row of a fault in the table of faults, counted from 0; the faults of cuts have one for each dimension
abbrev pub row_of_fault : CheckFault → ℕ
row_of_fault NoStep = 0
row_of_fault StepZero = 1
row_of_fault (Duplicate line) = 2
row_of_fault (TooManyLines line) = 3
row_of_fault (UnknownNumber line) = 4
row_of_fault NoDefaultRate = 5
row_of_fault NoDefaultInitial = 6
row_of_fault (LineAfterDefault line) = 7
row_of_fault (BadDate line) = 8
row_of_fault (AmountTooBig line) = 9
row_of_fault (MeasureZero line) = 10
row_of_fault NoCommonMeasure = 11
row_of_fault (TooManyCuts MonthDay cuts) = 12
row_of_fault (TooManyCuts Minute cuts) = 13
row_of_fault (TooManyCuts Distance cuts) = 14
row_of_fault (TooManyCuts Time cuts) = 15
row_of_fault (TooManyCells cells) = 16
row_of_fault NoMemory = 17
