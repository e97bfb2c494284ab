-- Rules: the tariffs whose numbers a text can have.
use Rattle.std.specs.Prelude.{ℕ, ◌^◌, ◌≤◌, All, None, Option, Some}
use Rattle.tariff_tree.specs.{Condition.{Condition}, Part.{Part}, Tree.{Entry, Line, Tree, parts_of}}
use Rattle.tariff_tree.specs.Condition as tree
use Rattle.tariff_tree.specs.Part as part

-- a number is from one to another if it is neither below the least nor above the most
abbrev pub IsFromTo : (least most n : ℕ) → Type 0
IsFromTo least most n = (least ≤ n) × (n ≤ most)

-- an amount of money, a distance or a time in a text is at most 10^12 units
abbrev pub greatest : ℕ
greatest = 10 ^ 12

-- a condition is writable if a text can have its numbers
abbrev pub IsWritableCondition : Condition → Type 0
IsWritableCondition (tree.and left right) = IsWritableCondition left × IsWritableCondition right
IsWritableCondition (tree.or left right) = IsWritableCondition left × IsWritableCondition right
IsWritableCondition (tree.not inner) = IsWritableCondition inner
IsWritableCondition (tree.position number) = IsFromTo 1 9 number
IsWritableCondition (tree.zone number) = IsFromTo 1 9 number
IsWritableCondition (tree.time from to) = (from ≤ 1439) × (to ≤ 1439)
IsWritableCondition (tree.day from to) = IsFromTo 1 7 from × IsFromTo 1 7 to
IsWritableCondition (tree.date from_month from_date to_month to_date) =
    (from_month ≤ 99) × (from_date ≤ 99) × (to_month ≤ 99) × (to_date ≤ 99)
IsWritableCondition tree.holiday = Unit {0}
IsWritableCondition (tree.after_distance decimetres) = decimetres ≤ greatest
IsWritableCondition (tree.after_time tenths) = tenths ≤ greatest

-- the condition of a line is writable if there is none or a text can have its numbers
abbrev pub IsWritableIf : Option Condition → Type 0
IsWritableIf None = Unit {0}
IsWritableIf (Some when) = IsWritableCondition when

-- a part of a line is writable if a text can have its numbers
abbrev pub IsWritablePart : Part → Type 0
IsWritablePart (part.money amount) = amount ≤ greatest
IsWritablePart (part.measure amount) = amount ≤ greatest
IsWritablePart (part.number least most n) = IsFromTo least most n
IsWritablePart (part.year_date year month date) = (year ≤ 9999) × (month ≤ 99) × (date ≤ 99)
IsWritablePart (part.covers amount) = amount ≤ greatest
IsWritablePart (part.condition when) = IsWritableIf when
IsWritablePart p = Unit {0}

-- an entry is writable if a text can have the numbers of each of its parts
abbrev pub IsWritableEntry : Entry → Type 0
IsWritableEntry entry = All IsWritablePart (parts_of entry)

-- a tariff is writable if a text can have all of its numbers
pub record IsWritable (t : Tree) : Type 0 where
  pub decimals : t.decimals ≤ 3
  pub lines : All (λ (l : Line). IsWritableEntry l.entry) t.lines
