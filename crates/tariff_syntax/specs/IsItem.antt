-- Rules: the forms of a line.
use Rattle.std.specs.Prelude.{[], ℕ, ◌++◌, ◌∷◌, ◌≡◌, ◌≤◌, ◌⊎◌, List, None, Option, Some, codes}
use Rattle.tariff_syntax.specs.Common.{Behind, Condition, Entry, Part, Rounding, parts_of, word_of}
use Rattle.tariff_syntax.specs.{Forms.{IsAmount, IsNumber, IsYearDate}, IsCondition.{IsCondition, size_of}}
use Rattle.tariff_syntax.specs.{Printed.{rounding_word}, PrintedCondition.{whole}, Token.{Token, figure, sign, word}}
use Rattle.tariff_tree.specs.Part as part

-- tokens say a rounding if they are its word, or if there are none and it is `behind`
abbrev pub IsRounding : List Token → Rounding → Type 0
IsRounding ts rounding = ((ts ≡ []) × (rounding ≡ Behind)) ⊎ (ts ≡ word (rounding_word rounding) ∷ [])

-- tokens say a covered amount if they are `covers` and the amount, or if there are none and it is 0
abbrev pub IsCovers : (decimals : ℕ) → List Token → ℕ → Type 0
IsCovers decimals ts n =
    ((ts ≡ []) × (n ≡ 0)) ⊎ ((f : List ℕ) × (ts ≡ word (codes "covers") ∷ figure f ∷ []) × IsAmount decimals f n)

-- tokens say the condition of a line if there are none and it has none, or if they are `when` and the condition,
-- with at most 64 atoms, `not` and `(` together
abbrev pub IsWhen : List Token → Option Condition → Type 0
IsWhen ts None = ts ≡ []
IsWhen ts (Some c) =
    (rest : List Token) × (ts ≡ word (codes "when") ∷ rest) × (is : IsCondition whole rest c)
    × (size_of whole rest c is ≤ 64)

-- tokens are a part of a line if they are its word, a comma, its figure, or what says a part that may be left out
abbrev pub IsPart : (decimals : ℕ) → List Token → Part → Type 0
IsPart decimals ts (part.name text) = ts ≡ word text ∷ []
IsPart decimals ts part.comma = ts ≡ sign (codes ",") ∷ []
IsPart decimals ts (part.money n) = (f : List ℕ) × (ts ≡ figure f ∷ []) × IsAmount decimals f n
IsPart decimals ts (part.measure n) = (f : List ℕ) × (ts ≡ figure f ∷ []) × IsAmount 1 f n
IsPart decimals ts (part.number least most n) = (f : List ℕ) × (ts ≡ figure f ∷ []) × IsNumber least most f n
IsPart decimals ts (part.year_date year month date) =
    (f : List ℕ) × (ts ≡ figure f ∷ []) × IsYearDate f year month date
IsPart decimals ts (part.rounding rounding) = IsRounding ts rounding
IsPart decimals ts (part.covers n) = IsCovers decimals ts n
IsPart decimals ts (part.condition when) = IsWhen ts when

-- tokens are some parts if they are the tokens of each, one after another
abbrev pub AreParts : (decimals : ℕ) → List Token → List Part → Type 0
AreParts decimals ts [] = ts ≡ []
AreParts decimals ts (p ∷ ps) =
    (first : List Token) × (rest : List Token) × (ts ≡ first ++ rest) × IsPart decimals first p
    × AreParts decimals rest ps

-- tokens say an entry if they are its word and its parts
abbrev pub IsItem : (decimals : ℕ) → List Token → Entry → Type 0
IsItem decimals ts entry =
    (rest : List Token) × (ts ≡ word (word_of entry) ∷ rest) × AreParts decimals rest (parts_of entry)

-- tokens say the decimals if they are `decimals` and a number of 0 to 3
abbrev pub IsDecimals : List Token → ℕ → Type 0
IsDecimals ts n = (f : List ℕ) × (ts ≡ word (codes "decimals") ∷ figure f ∷ []) × IsNumber 0 3 f n
