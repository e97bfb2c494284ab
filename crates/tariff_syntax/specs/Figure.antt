-- For proofs: what figures say, read byte by byte: numbers of one or two digits, dates and minutes, amounts. The law
-- texts_are_parsed_as_they_read says what the answers mean.
use Rattle.std.specs.Prelude.{ℕ, ◌&&◌, ◌*◌, ◌+◌, Err, List, None, Ok, Option, Result, Some, codes, if◌then◌else◌}
use Rattle.{std.specs.Prelude.{nat_le}, taxi_units.specs.Number.{decimal_read, figure_in, number_of_width}}
use Rattle.taxi_units.specs.{Reading.{word_at}, declared.decimal.NumberFault.{NumberFault}}
use Rattle.tariff_syntax.specs.{Common.{◌>>=◌}, Token.{Token}, Words.{ended, figure_first}}

-- the two numbers of a text of two digits, `between`, and two digits
unfoldable pub pair_read : (between : List ℕ) → List ℕ → Option (ℕ × ℕ)
pair_read between text = do
  first ← number_of_width 2 text
  rest ← word_at between first.1
  second ← number_of_width 2 rest
  ended second.1 (first.0, second.0)

-- the month and date of a text of two digits, `-`, and two digits
abbrev pub date_read : List ℕ → Option (ℕ × ℕ)
date_read text = pair_read (codes "-") text

-- the year, month and date of a text of four digits, `-`, and a date of a year
unfoldable pub year_date_read : List ℕ → Option (ℕ × ℕ × ℕ)
year_date_read text = do
  year ← number_of_width 4 text
  rest ← word_at (codes "-") year.1
  date ← date_read rest
  Some (year.0, date.0, date.1)

-- the minute of the day of hours and minutes, if the hours are below 24 and the minutes below 60
abbrev pub where_of_a_day : ℕ × ℕ → Option ℕ
where_of_a_day x = if (nat_le x.0 23 && nat_le x.1 59) then Some (60 * x.0 + x.1) else None

-- the minute of the day of a text of two digits, `:`, and two digits
unfoldable pub minute_read : List ℕ → Option ℕ
minute_read text = pair_read (codes ":") text >>= where_of_a_day

-- the amount, if one was read
abbrev pub amount_or_none : Result ℕ NumberFault → Option ℕ
amount_or_none (Ok n) = Some n
amount_or_none (Err fault) = None

-- the amount of a text, in units of the last of `decimals` decimals
unfoldable pub amount_read : (decimals : ℕ) → List ℕ → Option ℕ
amount_read decimals text = amount_or_none (decimal_read decimals text)

-- the value that `read` gives of the figure that stands first, and the tokens after it
abbrev pub figure_as : {A : Type 0} → (List ℕ → Option A) → List Token → Option (A × List Token)
figure_as read ts = do
  figure ← figure_first ts
  value ← read figure.0
  Some (value, figure.1)

-- the number of one or two digits, of `least` to `most`, that stands first, and the tokens after it
unfoldable pub number_first : (least most : ℕ) → List Token → Option (ℕ × List Token)
number_first least most ts = figure_as (figure_in 1 2 least most) ts

-- the amount that stands first, in units of the last of `decimals` decimals, and the tokens after it
unfoldable pub amount_first : (decimals : ℕ) → List Token → Option (ℕ × List Token)
amount_first decimals ts = figure_as (amount_read decimals) ts

-- the minute of the day that stands first, and the tokens after it
unfoldable pub minute_first : List Token → Option (ℕ × List Token)
minute_first ts = figure_as minute_read ts

-- the month and date that stand first, and the tokens after them
unfoldable pub date_first : List Token → Option ((ℕ × ℕ) × List Token)
date_first ts = figure_as date_read ts

-- the year, month and date that stand first, and the tokens after them
unfoldable pub year_date_first : List Token → Option ((ℕ × ℕ × ℕ) × List Token)
year_date_first ts = figure_as year_date_read ts
