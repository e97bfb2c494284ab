-- For proofs: the faults of a tariff in the stages of the code: those of its lines, and those of their numbers
-- together. Faults has them all in their order.
use Rattle.std.specs.{Option.{option_or}, Prelude.{◌^◌, List, Option, nat_lt}}
use Rattle.tariff_check.specs.{Cells.{cells_of}, Faults.{step_faults}, Measure.{measure_of}}
use Rattle.tariff_check.specs.Common.{CheckFault, Distance, Line, Minute, MonthDay, NoCommonMeasure, Time, TooManyCells}
use Rattle.tariff_check.specs.Faults.{cuts_fault, default_faults, fault_if, first_some, line_faults, number_faults}

-- the fault of the display step, if it has one
abbrev pub step_fault : List Line → Option CheckFault
step_fault ls = first_some (step_faults ls)

-- the fault of a line that is there too often, or that names what the tariff doesn't have
abbrev pub line_fault : List Line → Option CheckFault
line_fault ls = first_some (line_faults ls)

-- the fault of a default that is missing, or of a line after it
abbrev pub default_fault : List Line → Option CheckFault
default_fault ls = first_some (default_faults ls)

-- the fault of a line with a number that it may not have
abbrev pub number_fault : List Line → Option CheckFault
number_fault ls = first_some (number_faults ls)

-- the fault of the first dimension with too many cuts
abbrev pub cut_fault : List Line → Option CheckFault
cut_fault ls =
    option_or (cuts_fault ls MonthDay) (option_or (cuts_fault ls Minute)
    (option_or (cuts_fault ls Distance) (cuts_fault ls Time)))

-- the first of the faults of lines
abbrev pub early_fault : List Line → Option CheckFault
early_fault ls = option_or (step_fault ls) (option_or (line_fault ls) (option_or (default_fault ls) (number_fault ls)))

-- the first of the faults of the numbers of lines together
abbrev pub late_fault : List Line → Option CheckFault
late_fault ls =
    option_or (fault_if (nat_lt (10 ^ 18) (measure_of ls)) NoCommonMeasure)
    (option_or (cut_fault ls)
    (fault_if (nat_lt 64512 (cells_of ls)) (TooManyCells (cells_of ls))))
