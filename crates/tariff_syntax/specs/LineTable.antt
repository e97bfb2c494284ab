-- Rules: the lines of the language, kind by kind: the parts of a line, their order, and the range of each number. The
-- law lines_are_those_of_the_table says that the parts of an entry agree with this table.
use Rattle.std.specs.Prelude.{[], ℕ, ◌++◌, ◌∷◌, ◌≡◌, ◌≤◌, List, codes}
use Rattle.tariff_tree.specs.{Tree.{holiday}, Writable.{IsFromTo, IsWritableIf, greatest}}
use Rattle.tariff_syntax.specs.Common.{Entry, initial, minimum, positions, rate, step, supplement, zones}
use Rattle.tariff_syntax.specs.{Forms.{IsAmount, IsNumber, IsYearDate}, IsItem.{IsCovers, IsRounding, IsWhen}}
use Rattle.tariff_syntax.specs.Token.{Token, figure, sign, word}

-- tokens are a line of the table if they are its word and its parts; the `rest` of a step, a fee, a rate or a minimum
-- may be left out
abbrev pub IsTableLine : (decimals : ℕ) → List Token → Entry → Type 0
IsTableLine decimals ts (step amount rounding) =
    (f : List ℕ) × (rest : List Token) × (ts ≡ word (codes "step") ∷ figure f ∷ rest) × IsAmount decimals f amount
    × IsRounding rest rounding
IsTableLine decimals ts (positions number) =
    (f : List ℕ) × (ts ≡ word (codes "positions") ∷ figure f ∷ []) × IsNumber 1 9 f number
IsTableLine decimals ts (zones number) =
    (f : List ℕ) × (ts ≡ word (codes "zones") ∷ figure f ∷ []) × IsNumber 1 9 f number
IsTableLine decimals ts (holiday year month date) =
    (f : List ℕ) × (ts ≡ word (codes "holiday") ∷ figure f ∷ []) × IsYearDate f year month date
IsTableLine decimals ts (supplement number amount most) =
    (f : List ℕ) × (g : List ℕ) × (h : List ℕ)
    × (ts ≡ word (codes "supplement") ∷ figure f ∷ figure g ∷ word (codes "max") ∷ figure h ∷ [])
    × IsNumber 1 16 f number × IsAmount decimals g amount × IsNumber 1 99 h most
IsTableLine decimals ts (initial amount covers when) =
    (f : List ℕ) × (rest : List Token) × (behind : List Token)
    × (ts ≡ word (codes "initial") ∷ figure f ∷ (rest ++ behind)) × IsAmount decimals f amount
    × IsCovers decimals rest covers × IsWhen behind when
IsTableLine decimals ts (rate a b c e when) =
    (f : List ℕ) × (g : List ℕ) × (h : List ℕ) × (i : List ℕ) × (rest : List Token)
    × (ts ≡ word (codes "rate") ∷ figure f ∷ word (codes "per") ∷ figure g ∷ word (codes "m") ∷ sign (codes ",")
    ∷ figure h ∷ word (codes "per") ∷ figure i ∷ word (codes "s") ∷ rest)
    × IsAmount decimals f a × IsAmount 1 g b × IsAmount decimals h c × IsAmount 1 i e × IsWhen rest when
IsTableLine decimals ts (minimum amount when) =
    (f : List ℕ) × (rest : List Token) × (ts ≡ word (codes "minimum") ∷ figure f ∷ rest) × IsAmount decimals f amount
    × IsWhen rest when

-- an entry has the ranges of the table if each of its numbers is in the range of its place in the line
abbrev pub HasTableRanges : Entry → Type 0
HasTableRanges (step amount rounding) = amount ≤ greatest
HasTableRanges (positions number) = IsFromTo 1 9 number
HasTableRanges (zones number) = IsFromTo 1 9 number
HasTableRanges (holiday year month date) = (year ≤ 9999) × (month ≤ 99) × (date ≤ 99)
HasTableRanges (supplement number amount most) = IsFromTo 1 16 number × (amount ≤ greatest) × IsFromTo 1 99 most
HasTableRanges (initial amount covers when) = (amount ≤ greatest) × (covers ≤ greatest) × IsWritableIf when
HasTableRanges (rate a b c e when) =
    (a ≤ greatest) × (b ≤ greatest) × (c ≤ greatest) × (e ≤ greatest) × IsWritableIf when
HasTableRanges (minimum amount when) = (amount ≤ greatest) × IsWritableIf when
