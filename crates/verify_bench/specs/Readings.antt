-- Rules: texts of readings, which are the header and a row for each reading. The law texts_have_one_reading says that
-- `readings_in`, of ReadingStages, gives what a text is read as.
use Rattle.std.specs.Prelude.{[], ℕ, ◌++◌, ◌+◌, ◌<◌, ◌∷◌, ◌≡◌, ◌≢◌, ◌≤◌, Err, List, Ok, Result, length}
use Rattle.verify_bench.specs.Common.{BadRow, NoMemory, Reading, ReadingsFault, TooLong, decimal_read}
pub use Rattle.verify_bench.specs.ReadingRows.{AreFirstRows, AreRows, Row, header, readings_limit}
pub use Rattle.verify_bench.specs.ReadingStages.{readings_in}

-- a row says a reading if its three fields are read as the reading's fare, with the tariff's decimals, its distance
-- in metres, with three decimals, and its time in seconds, with one; `decimal_read` gives the number of a text, as the
-- law decimals_are_read_by_their_form of taxi_units says
pub record IsRowOfReading (decimals : ℕ) (row : Row) (reading : Reading) : Type 0 where
  pub fare : List ℕ
  pub distance : List ℕ
  pub time : List ℕ
  pub fields : row ≡ fare ∷ distance ∷ time ∷ []
  pub fare_is : decimal_read decimals fare ≡ Ok reading.fare
  pub distance_is : decimal_read 3 distance ≡ Ok reading.distance_mm
  pub time_is : decimal_read 1 time ≡ Ok reading.tenths

-- rows say readings if there are as many rows as readings, and each row says the reading at its place
abbrev pub AreRowsOfReadings : (decimals : ℕ) → List Row → List Reading → Type 0
AreRowsOfReadings decimals [] [] = Unit {0}
AreRowsOfReadings decimals [] (reading ∷ readings) = ⊥
AreRowsOfReadings decimals (row ∷ rows) [] = ⊥
AreRowsOfReadings decimals (row ∷ rows) (reading ∷ readings) =
    IsRowOfReading decimals row reading × AreRowsOfReadings decimals rows readings

-- rows are good if the first is the header, and the others say the readings
pub record AreGood (decimals : ℕ) (rows : List Row) (readings : List Reading) : Type 0 where
  pub others : List Row
  pub begins : rows ≡ header ∷ others
  pub say : AreRowsOfReadings decimals others readings

-- a row is bad behind other rows if it is the first and isn't the header, or if the others are good and it says
-- no reading
abbrev pub IsBadBehind : (decimals : ℕ) → List Row → Row → Type 0
IsBadBehind decimals [] row = row ≢ header
IsBadBehind decimals (first ∷ rows) row =
    (readings : List Reading) × AreGood decimals (first ∷ rows) readings
    × ((reading : Reading) → ¬ (IsRowOfReading decimals row reading))

-- a number is that of the first bad row of a text, counted from 1; a text without rows lacks its first
pub data IsFirstBad (decimals : ℕ) (text : List ℕ) : (number : ℕ) → Type 0 where
  bad : (before : List Row) (row : Row) → AreFirstRows text (before ++ row ∷ []) → IsBadBehind decimals before row
      → IsFirstBad decimals text (length before + 1)
  empty : AreRows text [] → IsFirstBad decimals text 1

-- a text is read as its readings if it is within the limit and all its rows are good, as too long above the limit, and
-- as bad at its first bad row; memory may run out for any text within the limit that has a byte
abbrev pub IsReadAs : (decimals : ℕ) → (text : List ℕ) → Result (List Reading) ReadingsFault → Type 0
IsReadAs decimals text (Ok readings) =
    (length text ≤ readings_limit) × (rows : List Row) × AreRows text rows × AreGood decimals rows readings
IsReadAs decimals text (Err TooLong) = readings_limit < length text
IsReadAs decimals text (Err (BadRow number)) = (length text ≤ readings_limit) × IsFirstBad decimals text number
IsReadAs decimals text (Err NoMemory) = (length text ≤ readings_limit) × (0 < length text)
