-- Rules: the texts of numbers and amounts, and which number stands at the front of a text. NumberStages has how the
-- code reads them.
use Rattle.std.specs.{Char.{digit_value}, Fmt.{decimal}, Str.Parse.{AllDigits, digits_value}}
use Rattle.std.specs.Prelude.{[], ℕ, ⊤, ◌%◌, ◌&&◌, ◌++◌, ◌+◌, ◌-◌, ◌/◌, ◌==◌, ◌^◌, ◌||◌, ◌∷◌, ◌≡◌, ◌≤◌, List, None}
use Rattle.std.specs.Prelude.{Option, Some, drop, if◌then◌else◌, length, nat_le, nat_lt, replicate, suc, take, zero}
use Rattle.taxi_units.specs.{Digits.{AreDigitsOf, IsFigure}, Reading.{◌>>=◌}}
pub use Rattle.taxi_units.specs.{Decimal.{units_of}, NumberStages.{whole_read}}
pub use Rattle.taxi_units.specs.NumberStages.{counted_parts_read, decimal_read, digits_at_front, parts_read, units_read}

-- a number is padded with zeros in front up to a width, and is written whole if it is longer
abbrev pub padded_text : ℕ → ℕ → List ℕ
padded_text width value = replicate (width - length (decimal value)) 48 ++ decimal value

-- an amount of units is written as the whole part, a point, and the rest in exactly `decimals` digits; without decimals
-- it is the number of units
abbrev pub money_text : ℕ → ℕ → List ℕ
money_text zero units = decimal units
money_text (suc more) units = decimal (units / 10 ^ suc more) ++ 46 ∷ padded_text (suc more) (units % 10 ^ suc more)

-- digits give the number that they make, with the rest behind them, if they are 1 to 12, and nothing otherwise
abbrev pub digits_number : List ℕ → List ℕ → Option (ℕ × List ℕ)
digits_number digits rest =
    if (length digits == 0) || nat_lt 12 (length digits) then None else Some (digits_value 10 digits, rest)

-- bytes begin with the number that all digits at their front make, and what stands after it, if the digits are 1 to
-- 12; the law numbers_are_read_by_their_digits says which texts begin with which number
unfoldable pub number_at : List ℕ → Option (ℕ × List ℕ)
number_at bytes = digits_number (take (digits_at_front bytes) bytes) (drop (digits_at_front bytes) bytes)

-- a number that was found at the front of a text, with the rest after it, counts if exactly `width` bytes of the
-- text stand before that rest
abbrev pub where_wide : (width : ℕ) → (text : List ℕ) → ℕ × List ℕ → Option (ℕ × List ℕ)
where_wide width text found = if length text == width + length found.1 then Some found else None

-- a text begins with the number of a width that all digits at its front make, and what stands after it, if the
-- digits are exactly `width`; the law numbers_are_read_by_their_digits says which texts begin with which number
unfoldable pub number_of_width : (width : ℕ) → List ℕ → Option (ℕ × List ℕ)
number_of_width width text = number_at text >>= where_wide width text

-- a number that was found at the front of a text, with the rest after it, counts if `fewest` to `most` bytes of the
-- text stand before that rest, and the number is of `low` to `high`
abbrev pub where_fits : (fewest most low high : ℕ) → (text : List ℕ) → ℕ × List ℕ → Option (ℕ × List ℕ)
where_fits fewest most low high text found =
    if (nat_le (length found.1 + fewest) (length text)
    && (nat_le (length text) (length found.1 + most) && (nat_le low found.0 && nat_le found.0 high)))
    then Some found else None

-- a text begins with the number of `fewest` to `most` digits and of `low` to `high` that all digits at its front make,
-- and what stands after it; the law figures_are_read_by_their_digits says which texts begin with which number
unfoldable pub figure_at : (fewest most low high : ℕ) → List ℕ → Option (ℕ × List ℕ)
figure_at fewest most low high text = number_at text >>= where_fits fewest most low high text

-- a number that was found counts if nothing stands after it
abbrev pub where_alone : ℕ × List ℕ → Option ℕ
where_alone found = if length found.1 == 0 then Some found.0 else None

-- a text is the number of `fewest` to `most` digits and of `low` to `high` that it writes, if it writes one; the law
-- figures_are_read_by_their_digits says which texts are which number
unfoldable pub figure_in : (fewest most low high : ℕ) → List ℕ → Option ℕ
figure_in fewest most low high text = figure_at fewest most low high text >>= where_alone

-- a text is the number of a range that its 1 to 12 digits write, if it is one
abbrev pub number_in : (low high : ℕ) → List ℕ → Option ℕ
number_in low high text = figure_in 1 12 low high text

-- a text begins with no digit if it is empty or its first byte is no digit
abbrev pub NoDigitFirst : List ℕ → Type 0
NoDigitFirst [] = ⊤
NoDigitFirst (c ∷ cs) = 10 ≤ digit_value c

-- a text begins with a number if it begins with 1 to 12 digits of the number, and the rest after them doesn't begin
-- with a digit
abbrev pub IsNumberAt : List ℕ → ℕ → List ℕ → Type 0
IsNumberAt text value rest =
    (digits : List ℕ) × (text ≡ digits ++ rest) × AreDigitsOf 1 12 digits value × NoDigitFirst rest

-- a text begins with a number of a width if it begins with exactly `width` digits of the number, and the rest after
-- them doesn't begin with a digit
abbrev pub IsNumberOfWidth : (width : ℕ) → List ℕ → ℕ → List ℕ → Type 0
IsNumberOfWidth width text value rest =
    (digits : List ℕ) × (text ≡ digits ++ rest) × AreDigitsOf width width digits value × NoDigitFirst rest

-- a text begins with a figure of a number if it begins with digits that are one, and the rest after them doesn't begin
-- with a digit
abbrev pub IsFigureAt : (fewest most low high : ℕ) → List ℕ → ℕ → List ℕ → Type 0
IsFigureAt fewest most low high text value rest =
    (digits : List ℕ) × (text ≡ digits ++ rest) × IsFigure fewest most low high digits value × NoDigitFirst rest

-- a text has `count` digits at its front if its first `count` bytes are digits, and what stands after them doesn't
-- begin with a digit
abbrev pub HasDigitsInFront : List ℕ → (count : ℕ) → Type 0
HasDigitsInFront text count =
    (count ≤ length text) × AllDigits 10 (take count text) × NoDigitFirst (drop count text)
