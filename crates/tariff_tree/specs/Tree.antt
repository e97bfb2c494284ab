-- Rules: a tariff, without where it lies in memory.
use Rattle.std.specs.{List.{AllPairs}, Prelude.{[], ℕ, ◌<◌, ◌∷◌, List, None, Option, codes, map}}
use Rattle.{drive_modes.specs.declared.meterage.Rounding.{Rounding}, tariff_tree.specs.declared.tariff.Tariff.{Tariff}}
use Rattle.tariff_tree.specs.{Condition.{Condition, condition_if}, Part.{Part}}
use Rattle.tariff_tree.specs.declared.tariff.Item.{Item, TheVariants.{Holiday, Initial, Minimum, Positions, Rate, Step}}
use Rattle.tariff_tree.specs.declared.tariff.{Item.TheVariants.{Supplement, Zones}, TariffLine.{TariffLine}}
use Rattle.tariff_tree.specs.Part as part

-- an entry is what a line says: money in units of the last decimal, distances in decimetres, times in tenths of a
-- second
pub data Entry : Type 0 where
  step : (amount : ℕ) (rounding : Rounding) → Entry
  positions : (number : ℕ) → Entry
  zones : (number : ℕ) → Entry
  holiday : (year month date : ℕ) → Entry
  supplement : (number amount most : ℕ) → Entry
  initial : (amount covers : ℕ) (when : Option Condition) → Entry
  rate : (a b c e : ℕ) (when : Option Condition) → Entry
  minimum : (amount : ℕ) (when : Option Condition) → Entry

-- the word of an entry is the one that its line begins with
abbrev pub word_of : Entry → List ℕ
word_of (step amount rounding) = codes "step"
word_of (positions number) = codes "positions"
word_of (zones number) = codes "zones"
word_of (holiday year month date) = codes "holiday"
word_of (supplement number amount most) = codes "supplement"
word_of (initial amount covers when) = codes "initial"
word_of (rate a b c e when) = codes "rate"
word_of (minimum amount when) = codes "minimum"

-- the parts of an entry stand behind its word, in this order
abbrev pub parts_of : Entry → List Part
parts_of (step amount rounding) = part.money amount ∷ part.rounding rounding ∷ []
parts_of (positions number) = part.number 1 9 number ∷ []
parts_of (zones number) = part.number 1 9 number ∷ []
parts_of (holiday year month date) = part.year_date year month date ∷ []
parts_of (supplement number amount most) =
    part.number 1 16 number ∷ part.money amount ∷ part.name (codes "max") ∷ part.number 1 99 most ∷ []
parts_of (initial amount covers when) = part.money amount ∷ part.covers covers ∷ part.condition when ∷ []
parts_of (rate a b c e when) =
    part.money a ∷ part.name (codes "per") ∷ part.measure b ∷ part.name (codes "m") ∷ part.comma
    ∷ part.money c ∷ part.name (codes "per") ∷ part.measure e ∷ part.name (codes "s") ∷ part.condition when ∷ []
parts_of (minimum amount when) = part.money amount ∷ part.condition when ∷ []

-- the condition of an entry is the one that it has; an entry of some kinds never has one
abbrev pub when_part : Entry → Option Condition
when_part (initial amount covers when) = when
when_part (rate a b c e when) = when
when_part (minimum amount when) = when
when_part _ = None

-- an entry without its condition says the same at all times
abbrev pub without_when : Entry → Entry
without_when (initial amount covers when) = initial amount covers None
without_when (rate a b c e when) = rate a b c e None
without_when (minimum amount when) = minimum amount None
without_when entry = entry

-- a line has its number in the text, from 1 on, and the entry that it says
pub record Line : Type 0 where
  pub line : ℕ
  pub entry : Entry

-- a tariff has the decimals of its money, and its lines in their order
pub record Tree : Type 0 where
  pub decimals : ℕ
  pub lines : List Line

-- lines rise in number if each has a greater number than those above it
abbrev pub RiseInNumber : List Line → Type 0
RiseInNumber lines = AllPairs (λ (above below : Line). above.line < below.line) lines

-- an item of the program stands for the entry with the same parts
abbrev pub entry_of : Item → Entry
entry_of (Step amount rounding) = step amount rounding
entry_of (Positions n) = positions n
entry_of (Zones n) = zones n
entry_of (Holiday year month date) = holiday year month date
entry_of (Supplement number amount max) = supplement number amount max
entry_of (Initial i) = initial i.amount i.covers (condition_if i.cond)
entry_of (Rate r) = rate r.a r.b r.c r.e (condition_if r.cond)
entry_of (Minimum m) = minimum m.amount (condition_if m.cond)

-- a line of the program stands for the line with the same number and what its item stands for
abbrev pub line_of : TariffLine → Line
line_of l = record { line = l.line; entry = entry_of l.item }

-- a value of the program stands for the tariff with the same decimals and lines
abbrev pub tree_of : Tariff → Tree
tree_of t = record { decimals = t.decimals; lines = map line_of t.lines }
