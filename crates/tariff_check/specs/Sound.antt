-- Rules: what a sound tariff is made of.
use Rattle.std.specs.Prelude.{ℕ, ◌^◌, ◌≡◌, ◌≤◌, All, IsTrue, Some, length, true}
use Rattle.{tariff_tree.specs.Writable.{IsWritableCondition}, tariff_check.specs.Common.{is_date, largest_display_step}}
use Rattle.tariff_check.specs.{Cells.{cells_of}, Faults.{has_default}, Lines.{atoms_in}, Measure.{measure_of}}
use Rattle.tariff_check.specs.Common.{ChoiceKind, Condition, Dimension, IsFromTo, Line, Rounding, Supplement, Tree}
use Rattle.tariff_check.specs.{Cuts.{count_of, most_cuts}, Kinds.{IsSoundSaid, initial_part, rate_part, said_by}}
use Rattle.tariff_check.specs.Parts.{DateNumbers, holidays_of, positions_of, step_of, supplement_of, zones_of}
use Rattle.tariff_tree.specs.Condition as tree
pub use Rattle.tariff_check.specs.Kinds.{IsSoundInitial, IsSoundRate}

-- a supplement is sound if its amount is at most 1,000,000 and it may be added 1 to 99 times
pub record IsSoundSupplement (s : Supplement) : Type 0 where
  pub amount : s.amount ≤ 10 ^ 6
  pub most : IsFromTo 1 99 s.max

-- a holiday is sound if it is a date of the years 2000 to 2199
pub record IsSoundHoliday (d : DateNumbers) : Type 0 where
  pub year : IsFromTo 2000 2199 d.year
  pub date : IsTrue (is_date d.year d.month d.date)

-- an atom is sound if a leap year has its dates, and its `after` is more than 0
abbrev pub IsSoundAtom : Condition → Type 0
IsSoundAtom (tree.date from_month from_date to_month to_date) =
    IsTrue (is_date 2000 from_month from_date) × IsTrue (is_date 2000 to_month to_date)
IsSoundAtom (tree.after_distance decimetres) = 1 ≤ decimetres
IsSoundAtom (tree.after_time tenths) = 1 ≤ tenths
IsSoundAtom atom = Unit {0}

-- an atom is good if it is sound and a text can have its numbers
abbrev pub IsGoodAtom : Condition → Type 0
IsGoodAtom atom = IsWritableCondition atom × IsSoundAtom atom

-- a tariff has sound parts if each part is sound and there are no more of them than there may be
pub record HasSoundParts (t : Tree) : Type 0 where
  pub decimals : t.decimals ≤ 3
  pub step : (s : ℕ × Rounding) × (step_of t.lines ≡ Some s) × IsFromTo 1 largest_display_step s.0
  pub positions : IsFromTo 1 9 (positions_of t.lines)
  pub zones : IsFromTo 1 9 (zones_of t.lines)
  pub choices : (kind : ChoiceKind) → All (IsSoundSaid kind) (said_by kind t.lines)
  pub choice_count : (kind : ChoiceKind) → length (said_by kind t.lines) ≤ 64
  pub default_rate : has_default rate_part t.lines ≡ true
  pub default_initial : has_default initial_part t.lines ≡ true
  pub supplements : (number : ℕ) (s : Supplement) → supplement_of t.lines number ≡ Some s → IsSoundSupplement s
  pub holidays : All IsSoundHoliday (holidays_of t.lines)
  pub holiday_count : length (holidays_of t.lines) ≤ 255
  pub atoms : All (λ (l : Line). All IsGoodAtom (atoms_in l.entry)) t.lines
  pub measure : IsFromTo 1 (10 ^ 18) (measure_of t.lines)
  pub cuts : (dimension : Dimension) → count_of dimension t.lines ≤ most_cuts dimension
  pub cells : IsFromTo 1 64512 (cells_of t.lines)
