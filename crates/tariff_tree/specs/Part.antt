-- Rules: what the lines of a tariff are made of.
use Rattle.{std.specs.Prelude.{ℕ, List, Option}, drive_modes.specs.declared.meterage.Rounding.{Rounding}}
use Rattle.tariff_tree.specs.Condition.{Condition}

-- these parts of a line always stand: a word, a comma, an amount of money, a distance or a time, a number of a range, a
-- date of a year; these may be left out: a rounding, a covered amount, a condition
pub data Part : Type 0 where
  name : (text : List ℕ) → Part
  comma : Part
  money : (amount : ℕ) → Part
  measure : (amount : ℕ) → Part
  number : (least most n : ℕ) → Part
  year_date : (year month date : ℕ) → Part
  rounding : (by : Rounding) → Part
  covers : (amount : ℕ) → Part
  condition : (when : Option Condition) → Part
