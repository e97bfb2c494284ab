-- Rules: what a decimal text is, where a text breaks that form, and what is read from it.
use Rattle.std.specs.Prelude.{[], ℕ, ◌*◌, ◌++◌, ◌+◌, ◌-◌, ◌<◌, ◌^◌, ◌∷◌, ◌≡◌, ◌≢◌, ◌≤◌, ◌⊎◌, Err, List, Ok, Result}
use Rattle.std.specs.{Prelude.{length, take}, Str.Parse.{AllDigits, IsNumeral, digits_value}}
use Rattle.taxi_units.specs.Common.{BadDigit, Empty, NumberFault, TooBig, TooManyDecimals}

-- the units of digits before the point and after it are counted in the last of `decimals` decimals
abbrev pub units_of : (decimals : ℕ) → (whole parts : List ℕ) → ℕ
units_of decimals whole parts = digits_value 10 (whole ++ parts) * 10 ^ (decimals - length parts)

-- a decimal text is one or more digits (`whole`), or one or more digits, a point, and one or more digits (`parts`)
abbrev pub IsDecimal : List ℕ → List ℕ → List ℕ → Type 0
IsDecimal text whole [] = IsNumeral 10 whole × (text ≡ whole)
IsDecimal text whole (c ∷ cs) = IsNumeral 10 whole × AllDigits 10 (c ∷ cs) × (text ≡ whole ++ 46 ∷ c ∷ cs)

-- a text has the form of a decimal if it is some digits, or some digits, a point and some digits
abbrev pub HasDecimalForm : List ℕ → Type 0
HasDecimalForm text = (whole : List ℕ) × (parts : List ℕ) × IsDecimal text whole parts

-- bytes begin a decimal text if some bytes after them make one
abbrev pub IsBegun : List ℕ → Type 0
IsBegun bytes = (rest : List ℕ) × HasDecimalForm (bytes ++ rest)

-- a text ends too early at a place if that is its end and the text is no decimal
abbrev pub EndsEarly : List ℕ → ℕ → Type 0
EndsEarly text place = (place ≡ length text) × ¬ (HasDecimalForm text)

-- the byte at a place is wrong if no decimal text begins with the bytes up to and with it
abbrev pub IsWrongAt : List ℕ → ℕ → Type 0
IsWrongAt text place = (place < length text) × ¬ (IsBegun (take (place + 1) text))

-- a place is the first that breaks the form if the bytes before it begin a decimal text, and the text ends there too
-- early or has a wrong byte there
abbrev pub BreaksAt : List ℕ → ℕ → Type 0
BreaksAt text place = IsBegun (take place text) × (EndsEarly text place ⊎ IsWrongAt text place)

-- the answer to a text of at most `decimals` decimals is Empty for the empty text; BadDigit with the first place that
-- breaks the form of a decimal; TooManyDecimals with the place of the first decimal too many, if the form is good;
-- TooBig above 10^12 units, if neither is wrong; and else its units
abbrev pub IsReadAs : ℕ → List ℕ → Result ℕ NumberFault → Type 0
IsReadAs decimals text (Err Empty) = text ≡ []
IsReadAs decimals text (Err (BadDigit place)) = (text ≢ []) × BreaksAt text place
IsReadAs decimals text (Err (TooManyDecimals place)) =
    (whole : List ℕ) × (parts : List ℕ) × IsDecimal text whole parts × (decimals < length parts)
    × (place ≡ length whole + 1 + decimals)
IsReadAs decimals text (Err TooBig) =
    (whole : List ℕ) × (parts : List ℕ) × IsDecimal text whole parts × (length parts ≤ decimals)
    × (10 ^ 12 < units_of decimals whole parts)
IsReadAs decimals text (Ok units) =
    (whole : List ℕ) × (parts : List ℕ) × IsDecimal text whole parts × (length parts ≤ decimals)
    × (units ≡ units_of decimals whole parts) × (units ≤ 10 ^ 12)
