-- Rules: the forms of the values that are no plain numbers, in words that share nothing with how they are read.
use Rattle.std.specs.Prelude.{ℕ, ℤ, ◌++◌, ◌∷◌, ◌≡◌, List, codes, neg_ℤ, pos}
use Rattle.taxi_units.specs.Digits.{AreDigitsOf, IsFigure}
use Rattle.seal_record.specs.Common.{Double, IsDateOf, IsNumberIn, Mode, Single}
use Rattle.seal_record.specs.Limits.{first_year, greatest_offset, last_year}

-- a text is that of a mode if it is `single` for mode S, or `double` for mode D
pub data IsModeText : List ℕ → Mode → Type 0 where
  single_said : IsModeText (codes "single") Single
  double_said : IsModeText (codes "double") Double

-- a text is that of an offset if it is a number of at most 50400, with a minus before it or not
pub data IsOffsetText : List ℕ → ℤ → Type 0 where
  ahead : (digits : List ℕ) (n : ℕ) → IsNumberIn 0 greatest_offset digits n → IsOffsetText digits (pos n)
  behind : (digits : List ℕ) (n : ℕ) → IsNumberIn 0 greatest_offset digits n
      → IsOffsetText (45 ∷ digits) (neg_ℤ (pos n))

-- a text is that of a pair if it is the 1 to 12 digits of its second, one blank, and its offset
pub record IsPairText (text : List ℕ) (pair : ℕ × ℤ) : Type 0 where
  pub second : List ℕ
  pub offset : List ℕ
  pub text_is : text ≡ second ++ 32 ∷ offset
  pub second_is : AreDigitsOf 1 12 second pair.0
  pub offset_is : IsOffsetText offset pair.1

-- a text is that of a day number if it is a date of the years 2000 to 2199 as YYYY-MM-DD, and the day is that date's
pub record IsDateText (text : List ℕ) (day : ℤ) : Type 0 where
  pub years : List ℕ
  pub months : List ℕ
  pub dates : List ℕ
  pub text_is : text ≡ years ++ 45 ∷ (months ++ 45 ∷ dates)
  pub year : ℕ
  pub month : ℕ
  pub date : ℕ
  pub year_is : IsFigure 4 4 first_year last_year years year
  pub month_is : AreDigitsOf 2 2 months month
  pub date_is : AreDigitsOf 2 2 dates date
  pub day_is : IsDateOf day year month date
