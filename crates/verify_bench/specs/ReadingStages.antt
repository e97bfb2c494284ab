-- By law: what a text of readings says, as a function of the text, row after row. Readings says what it means, by
-- the law `texts_have_one_reading`.
use Rattle.std.specs.{Cmp.Lexicographic.{pointwise}, Prelude.{nat_lt}, Result.{result_ok}}
use Rattle.std.specs.Prelude.{[], ℕ, ◌+◌, ◌∷◌, Err, List, None, Ok, Option, Result, Some, if◌then◌else◌, length, nat_eq}
use Rattle.csv.specs.Reading.{default_config, records, strip_bom}
use Rattle.taxi_units.specs.Reading.{◌>>=◌}
use Rattle.verify_bench.specs.Common.{BadRow, Reading, ReadingsFault, TooLong, decimal_read}
use Rattle.verify_bench.specs.ReadingRows.{Row, header, readings_limit}

-- a row with three fields that are read says their reading, and any other row none
abbrev pub reading_of_row : (decimals : ℕ) → Row → Option Reading
reading_of_row decimals [] = None
reading_of_row decimals (fare ∷ []) = None
reading_of_row decimals (fare ∷ distance ∷ []) = None
reading_of_row decimals (fare ∷ distance ∷ time ∷ []) = do
  fare ← result_ok (decimal_read decimals fare)
  distance ← result_ok (decimal_read 3 distance)
  time ← result_ok (decimal_read 1 time)
  Some (record { fare = fare; distance_mm = distance; tenths = time })
reading_of_row decimals (fare ∷ distance ∷ time ∷ next ∷ more) = None

-- the reading of a row comes before those that further rows say; a row that says none is bad, whatever follows
abbrev pub reading_before : (number : ℕ) → Option Reading → Result (List Reading) ReadingsFault
    → Result (List Reading) ReadingsFault
reading_before number None more = Err (BadRow number)
reading_before number (Some reading) (Ok readings) = Ok (reading ∷ readings)
reading_before number (Some reading) (Err fault) = Err fault

-- rows say their readings, or the first that says none is bad; the first of them has the given number
unfoldable pub readings_from : (decimals number : ℕ) → List Row → Result (List Reading) ReadingsFault
readings_from decimals number [] = Ok []
readings_from decimals number (row ∷ rows) =
    reading_before number (reading_of_row decimals row) (readings_from decimals (number + 1) rows)

-- all rows of a text say the readings behind the header; without the header as the first row, row 1 is bad
abbrev pub readings_of_rows : (decimals : ℕ) → List Row → Result (List Reading) ReadingsFault
readings_of_rows decimals [] = Err (BadRow 1)
readings_of_rows decimals (first ∷ rows) =
    if pointwise (pointwise nat_eq) first header then readings_from decimals 2 rows else Err (BadRow 1)

-- a text within the limit says what its rows say, as csv gives them
abbrev pub readings_in : (decimals : ℕ) → (text : List ℕ) → Result (List Reading) ReadingsFault
readings_in decimals text =
    if nat_lt readings_limit (length text) then Err TooLong
    else readings_of_rows decimals (records default_config (strip_bom text))
