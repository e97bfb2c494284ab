-- Rules: yearly rules of summer time.
use Rattle.std.specs.Prelude.{ℤ, ◌≢◌, ◌≤◌}
use Rattle.{taxi_units.specs.Calendar.{IsMonth}, offset_rules.specs.Common.{IsOffset}}
pub use Rattle.offset_rules.specs.declared.rules.Change.{Change}

-- a change has its parts in range: a number of 1 to 5, a weekday of 1 to 7, a month, and a minute of the day
pub record IsChange (change : Change) : Type 0 where
  pub number : (1 ≤ change.number) × (change.number ≤ 5)
  pub weekday : (1 ≤ change.weekday) × (change.weekday ≤ 7)
  pub month : IsMonth change.month
  pub minute : change.minute ≤ 1439

-- a rule has the offsets of standard and of summer time, in seconds, and the changes at which summer time begins and
-- ends
pub record Rule : Type 0 where
  pub standard : ℤ
  pub summer : ℤ
  pub begin : Change
  pub end : Change

-- a rule is lawful if its offsets are at most 14 hours and its changes are in range and in two different months
pub record IsRule (rule : Rule) : Type 0 where
  pub standard : IsOffset rule.standard
  pub summer : IsOffset rule.summer
  pub begin : IsChange rule.begin
  pub end : IsChange rule.end
  pub months : rule.begin.month ≢ rule.end.month
