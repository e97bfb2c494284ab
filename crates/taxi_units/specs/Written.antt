-- Rules: which texts are those of a number and of an amount, told by their digits.
use Rattle.{std.specs.Fmt.{decimal}, taxi_units.specs.{Decimal.{IsDecimal}, Number.{units_of}}}
use Rattle.std.specs.{Prelude.{ℕ, ◌≡◌, List, length, max, slice_index}, Str.Parse.{IsNumeral, digits_value}}

-- digits have no zero in front, unless that zero is the only digit
abbrev pub HasNoZeroInFront : List ℕ → Type 0
HasNoZeroInFront digits = slice_index digits 0 ≡ 48 → length digits ≡ 1

-- the text of a number is decimal digits with that value, with no zero in front unless it is the only digit
pub record IsNumberText (value : ℕ) (text : List ℕ) : Type 0 where
  pub digits : IsNumeral 10 text
  pub value_is : digits_value 10 text ≡ value
  pub front : HasNoZeroInFront text

-- the text of a number in a width is decimal digits with that value, as many as the width, or as the number has if
-- it has more
pub record IsPaddedText (width value : ℕ) (text : List ℕ) : Type 0 where
  pub digits : IsNumeral 10 text
  pub value_is : digits_value 10 text ≡ value
  pub length_is : length text ≡ max width (length (decimal value))

-- the text of an amount is a decimal text with that many units: no zero in front of the point unless it is the only
-- digit there, and exactly `decimals` digits behind the point
pub record IsAmountText (decimals units : ℕ) (text : List ℕ) : Type 0 where
  pub whole : List ℕ
  pub parts : List ℕ
  pub form : IsDecimal text whole parts
  pub front : HasNoZeroInFront whole
  pub exactly : length parts ≡ decimals
  pub value_is : units_of decimals whole parts ≡ units
