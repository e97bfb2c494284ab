-- Rows of readings, taken one by one.
use Rattle.{std.{specs.Result.{result_ok}, proofs.Common.{arith, length, refl}}, csv.specs.Reading.{Reached}}
use Rattle.std.proofs.Common.{[], ℕ, ◌++◌, ◌+◌, ◌<◌, ◌∷◌, ◌≡◌, ◌≤◌, Err, List, None, Ok, Option, Result, Some, ap}
use Rattle.{csv.proofs.OnLiterals.{csv_on_literals}, taxi_units.specs.declared.decimal.NumberFault.{NumberFault}}
use Rattle.taxi_units.specs.Reading.{◌>>=◌}
use Rattle.verify_bench.specs.Common.{BadRow, NoMemory, Reading, ReadingsFault, TooLong, decimal_read}
use Rattle.verify_bench.specs.{ReadingStages.{reading_of_row}, RowsTaken.{IsRowFault}}
use Rattle.verify_bench.specs.Readings.{AreFirstRows, AreGood, AreRows, AreRowsOfReadings, IsBadBehind, IsReadAs}
use Rattle.verify_bench.specs.Readings.{IsRowOfReading, Row, bad, empty, header, readings_limit}
use Rattle.csv.specs.declared.parser.State.TheVariants as states

-- three numbers that were read, or not, as one reading
three_said : Result ℕ NumberFault → Result ℕ NumberFault → Result ℕ NumberFault → Option Reading
three_said fare distance time = do
  fare ← result_ok fare
  distance ← result_ok distance
  time ← result_ok time
  Some (record { fare = fare; distance_mm = distance; tenths = time })

three_are_ok : (fare distance time : Result ℕ NumberFault) (reading : Reading)
    → three_said fare distance time ≡ Some reading
    → (fare ≡ Ok reading.fare) × (distance ≡ Ok reading.distance_mm) × (time ≡ Ok reading.tenths)
unfolding three_said
three_are_ok (Ok fare) (Ok distance) (Ok time) reading said =
    let same : reading ≡ record { fare = fare; distance_mm = distance; tenths = time } = cc in
    rw same (refl, refl, refl)
three_are_ok (Ok fare) (Ok distance) (Err why) reading said = absurd cc
three_are_ok (Ok fare) (Err why) time reading said = absurd cc
three_are_ok (Err why) distance time reading said = absurd cc

-- a row that is found to say a reading says it
pub said_says : (decimals : ℕ) (row : Row) (reading : Reading) → reading_of_row decimals row ≡ Some reading
    → IsRowOfReading decimals row reading
unfolding three_said
said_says decimals [] reading said = absurd cc
said_says decimals (fare ∷ []) reading said = absurd cc
said_says decimals (fare ∷ distance ∷ []) reading said = absurd cc
said_says decimals (fare ∷ distance ∷ time ∷ []) reading said =
    let parts =
    three_are_ok (decimal_read decimals fare) (decimal_read 3 distance) (decimal_read 1 time) reading said in
    record {
      fare = fare;
      distance = distance;
      time = time;
      fields = refl;
      fare_is = parts.0;
      distance_is = parts.1;
      time_is = parts.2;
    }
said_says decimals (fare ∷ distance ∷ time ∷ next ∷ more) reading said = absurd cc

-- a row that says a reading is found to say it
pub says_said : (decimals : ℕ) (row : Row) (reading : Reading) → IsRowOfReading decimals row reading
    → reading_of_row decimals row ≡ Some reading
says_said decimals row reading says = rw (says.fields, says.fare_is, says.distance_is, says.time_is) refl

-- if no reading is found, the row says none
pub says_none : (decimals : ℕ) (row : Row) → reading_of_row decimals row ≡ None → (reading : Reading)
    → ¬ (IsRowOfReading decimals row reading)
says_none decimals row none reading says = let said = says_said decimals row reading says in absurd cc

-- one row and its reading more
say_more : (decimals : ℕ) (rows : List Row) (readings : List Reading) (row : Row) (reading : Reading)
    → AreRowsOfReadings decimals rows readings → IsRowOfReading decimals row reading
    → AreRowsOfReadings decimals (rows ++ row ∷ []) (readings ++ reading ∷ [])
say_more decimals [] [] row reading all says = (says, tt)
say_more decimals [] (next ∷ readings) row reading all says = absurd all
say_more decimals (next ∷ rows) [] row reading all says = absurd all
say_more decimals (first ∷ rows) (next ∷ readings) row reading all says =
    (all.0, say_more decimals rows readings row reading all.1 says)

-- there are as many rows as readings
say_length : (decimals : ℕ) (rows : List Row) (readings : List Reading) → AreRowsOfReadings decimals rows readings
    → length rows ≡ length readings
say_length decimals [] [] all = refl
say_length decimals [] (next ∷ readings) all = absurd all
say_length decimals (next ∷ rows) [] all = absurd all
say_length decimals (first ∷ rows) (next ∷ readings) all = let rest =
    say_length decimals rows readings all.1 in omega arith

pub good_more : (decimals : ℕ) (rows : List Row) (readings : List Reading) (row : Row) (reading : Reading)
    → AreGood decimals rows readings → reading_of_row decimals row ≡ Some reading
    → AreGood decimals (rows ++ row ∷ []) (readings ++ reading ∷ [])
good_more decimals rows readings row reading good said = record {
  others = good.others ++ row ∷ [];
  begins = ap (λ (before : List Row). before ++ row ∷ []) good.begins;
  say = say_more decimals good.others readings row reading good.say (said_says decimals row reading said);
}

-- the header has a row of its own
pub good_length : (decimals : ℕ) (rows : List Row) (readings : List Reading) → AreGood decimals rows readings
    → length rows ≡ length readings + 1
good_length decimals rows readings good =
    let others = say_length decimals good.others readings good.say in
    let all : length rows ≡ length good.others + 1 = rw good.begins (omega arith) in
    omega arith

pub bad_behind : (decimals : ℕ) (rows : List Row) (readings : List Reading) (row : Row) → AreGood decimals rows readings
    → reading_of_row decimals row ≡ None
    → IsBadBehind decimals rows row
bad_behind decimals [] readings row good none = absurd (let e : [] ≡ header ∷ good.others = good.begins in cc)
bad_behind decimals (first ∷ rows) readings row good none = (readings, good, says_none decimals row none)

-- the fault of a row behind the first rows of a text is that of the text
pub fault_of_row : (decimals : ℕ) (text : List ℕ) (rows : List Row) (row : Row) (fault : ReadingsFault)
    → length text ≤ readings_limit → 0 < length text → AreFirstRows text (rows ++ row ∷ [])
    → IsRowFault decimals rows row fault → IsReadAs decimals text (Err fault)
fault_of_row decimals text rows row TooLong short some first why = absurd why
fault_of_row decimals text rows row (BadRow number) short some first why = (short, rw why.0 (bad rows row first why.1))
fault_of_row decimals text rows row NoMemory short some first why = (short, some)

-- a text without a byte has no rows
pub no_rows : AreRows [] []
unfolding csv_on_literals Reached
no_rows = (states.StartRecord, [], (refl, refl), refl)

pub none_is_bad : (decimals : ℕ) (text : List ℕ) → length text ≡ 0 → IsReadAs decimals text (Err (BadRow 1))
none_is_bad decimals [] none = (omega arith, empty no_rows)
none_is_bad decimals (byte ∷ text) none = absurd (omega arith)
