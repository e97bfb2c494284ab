-- Rules: the condition of a line, without where it lies in memory.
use Rattle.std.specs.Prelude.{ℕ, None, Option, Some}
use Rattle.tariff_tree.specs.declared.condition.Cond.{AfterDistance, AfterTime, And', Cond, Date, Day, Holiday, Not'}
use Rattle.tariff_tree.specs.declared.condition.Cond.{Or', Position, Time, Zone}

-- a condition joins others by `and`, `or` and `not`, or is an atom: a position or a zone, a range of minutes of the
-- day, of weekdays from 1 for Monday or of dates of a year, a holiday, or a distance in decimetres or a time in tenths
-- of a second that has passed
pub data Condition : Type 0 where
  and : (left right : Condition) → Condition
  or : (left right : Condition) → Condition
  not : (inner : Condition) → Condition
  position : (number : ℕ) → Condition
  zone : (number : ℕ) → Condition
  time : (from to : ℕ) → Condition
  day : (from to : ℕ) → Condition
  date : (from_month from_date to_month to_date : ℕ) → Condition
  holiday : Condition
  after_distance : (decimetres : ℕ) → Condition
  after_time : (tenths : ℕ) → Condition

-- a value of the program stands for the condition with the same parts
abbrev pub condition_of : Cond → Condition
condition_of (And' p left q right) = and (condition_of left) (condition_of right)
condition_of (Or' p left q right) = or (condition_of left) (condition_of right)
condition_of (Not' p inner) = not (condition_of inner)
condition_of (Position n) = position n
condition_of (Zone n) = zone n
condition_of (Time from to) = time from to
condition_of (Day from to) = day from to
condition_of (Date from to) = date from.0 from.1 to.0 to.1
condition_of Holiday = holiday
condition_of (AfterDistance n) = after_distance n
condition_of (AfterTime n) = after_time n

-- a line has no condition, or the one that its value stands for
abbrev pub condition_if : Option Cond → Option Condition
condition_if None = None
condition_if (Some c) = Some (condition_of c)
