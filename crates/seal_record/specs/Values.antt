-- For proofs: the values of the parameters, as they are read. The laws texts_say_parameters_line_by_line and
-- values_are_read_by_their_forms say what they are.
use Rattle.std.specs.Prelude.{ℕ, ℤ, List, None, Option, Some, codes, if◌then◌else◌, length, neg_ℤ, pos}
use Rattle.{std.specs.Str.{bytes_eq}, taxi_units.specs.{Number.{number_at, number_of_width}, Reading.{word_at}}}
use Rattle.seal_record.specs.Common.{◌&◌, ◌>>=◌, Double, Mode, Single, Test, at_most, date_test, day_number_of}
use Rattle.seal_record.specs.{Common.{number_in, same}, Limits.{first_year, greatest_offset, last_year}}
use Rattle.seal_record.specs.RangeTests.{taxi_test}

-- a text is read as a taxi identifier if it is one
abbrev pub taxi_read : List ℕ → Option (List ℕ)
taxi_read text = if (taxi_test text).passes then Some text else None

-- a text is read as a mode if it is the word of one
unfoldable pub mode_read : List ℕ → Option Mode
mode_read text =
    if bytes_eq text (codes "single") then Some Single
    else (if bytes_eq text (codes "double") then Some Double else None)

-- a text is read as an offset if it is a number of at most 50400 seconds, perhaps with a minus before it
unfoldable pub offset_read : List ℕ → Option ℤ
offset_read text = signed_read text (word_at (codes "-") text)
  where
    signed_read : List ℕ → Option (List ℕ) → Option ℤ
    signed_read text (Some digits) = number_in 0 greatest_offset digits >>= (λ n. Some (neg_ℤ (pos n)))
    signed_read text None = number_in 0 greatest_offset text >>= (λ n. Some (pos n))

-- a text is read as a pair if it is a second, one blank, and the offset that is in force from it on
unfoldable pub pair_read : List ℕ → Option (ℕ × ℤ)
pair_read text = do
  second ← number_at text
  rest ← word_at (codes " ") second.1
  offset ← offset_read rest
  Some (second.0, offset)

-- a year, a month and a date are a date of the years 2000 to 2199, and nothing stands behind them
abbrev pub secured_test : (year month date : ℕ) → (rest : List ℕ) → Test
secured_test year month date rest =
    same (length rest) 0 & (at_most first_year year & (at_most year last_year & date_test year month date))

-- a year, a month and a date that were read are a day number if they pass `secured_test`
abbrev pub where_date : (year month date : ℕ) → (rest : List ℕ) → Option ℤ
where_date year month date rest =
    if (secured_test year month date rest).passes then Some (pos (day_number_of year month date)) else None

-- a text is read as the day number of a date if it is YYYY-MM-DD
unfoldable pub secured_read : List ℕ → Option ℤ
secured_read text = do
  year ← number_of_width 4 text
  rest ← word_at (codes "-") year.1
  month ← number_of_width 2 rest
  rest ← word_at (codes "-") month.1
  date ← number_of_width 2 rest
  where_date year.0 month.0 date.0 date.1
