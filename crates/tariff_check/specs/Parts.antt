-- Rules: the parts of a tariff, from its lines.
use Rattle.std.specs.List.{filter_map, list_any, slice_get}
use Rattle.std.specs.{Option.{option_map, unwrap_or}, Prelude.{ℕ, ◌==◌, Bool, List, None, Option, Some, find, true}}
use Rattle.tariff_check.specs.Common.{Entry, Line, Rounding, Supplement, holiday, positions, step, supplement, zones}
use Rattle.tariff_check.specs.declared.values.DateNumbers as dates
pub use Rattle.{tariff_tree.specs.Tree.{when_part}, tariff_check.specs.Kinds.{minimums_of, rate_part, rates_of}}
pub use Rattle.tariff_check.specs.Kinds.{InitialNumbers, RateNumbers, initial_part, initials_of, minimum_part}

-- a date has a year, a month and a date of the month
abbrev pub DateNumbers : Type 0
DateNumbers = dates.DateNumbers

-- the parts of lines are the part of each line that has one, in order
abbrev pub parts : {A : Type 0} → (Entry → Option A) → List Line → List A
parts part lines = filter_map (λ (l : Line). part l.entry) lines

-- the first part of lines is that of the first line with such a part
abbrev pub first_part : {A : Type 0} → (Entry → Option A) → List Line → Option A
first_part part lines = slice_get (parts part lines) 0

-- the step part of an entry is its amount and its rounding if it is a step, and none otherwise
abbrev pub step_part : Entry → Option (ℕ × Rounding)
step_part (step amount rounding) = Some (amount, rounding)
step_part _ = None

-- the positions part of an entry is its number if it says how many positions there are, and none otherwise
abbrev pub positions_part : Entry → Option ℕ
positions_part (positions number) = Some number
positions_part _ = None

-- the zones part of an entry is its number if it says how many zones there are, and none otherwise
abbrev pub zones_part : Entry → Option ℕ
zones_part (zones number) = Some number
zones_part _ = None

-- the holiday part of an entry is its date if it is a holiday, and none otherwise
abbrev pub holiday_part : Entry → Option DateNumbers
holiday_part (holiday year month date) = Some (record { year = year; month = month; date = date })
holiday_part _ = None

-- a supplement says its number, its amount and how often a hiring may have it
abbrev pub numbered_supplement : Entry → Option (ℕ × Supplement)
numbered_supplement (supplement number amount most) = Some (number, record { amount = amount; max = most })
numbered_supplement _ = None

-- the display step of lines, with its rounding, is that of the first `step` line, if there is one
abbrev pub step_of : List Line → Option (ℕ × Rounding)
step_of lines = first_part step_part lines

-- lines have as many tariff positions as a line says, and 1 if none does
abbrev pub positions_of : List Line → ℕ
positions_of lines = unwrap_or (first_part positions_part lines) 1

-- lines have as many zones as a line says, and 1 if none does
abbrev pub zones_of : List Line → ℕ
zones_of lines = unwrap_or (first_part zones_part lines) 1

-- the holidays of lines are the date of each `holiday` line, in order
abbrev pub holidays_of : List Line → List DateNumbers
holidays_of lines = parts holiday_part lines

-- the test `has_holidays` is true if lines have a holiday
abbrev pub has_holidays : List Line → Bool
has_holidays lines = list_any (λ (d : DateNumbers). true) (holidays_of lines)

-- the supplement of a number is the first that has it, if there is one
abbrev pub supplement_numbered : List (ℕ × Supplement) → (number : ℕ) → Option Supplement
supplement_numbered all number =
    option_map (λ (s : ℕ × Supplement). s.1) (find (λ (s : ℕ × Supplement). number == s.0) all)

-- the supplement of a number in lines is that of the line with the number, if there is one
abbrev pub supplement_of : List Line → (number : ℕ) → Option Supplement
supplement_of lines number = supplement_numbered (parts numbered_supplement lines) number
