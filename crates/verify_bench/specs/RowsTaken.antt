-- For proofs: rows of readings that are taken one by one. Readings says what all rows of a text come to.
use Rattle.std.specs.Prelude.{[], ℕ, ◌+◌, ◌≡◌, Bool, List, false, length, true}
use Rattle.verify_bench.specs.Common.{BadRow, NoMemory, Reading, ReadingsFault, TooLong}
use Rattle.verify_bench.specs.Readings.{AreGood, IsBadBehind, IsRowOfReading, Row}

-- rows that were taken have given readings if none were taken yet, or if they are good and say these readings
abbrev pub HaveGiven : (decimals : ℕ) → List Row → (headed : Bool) → List Reading → Type 0
HaveGiven decimals rows false readings = (rows ≡ []) × (readings ≡ [])
HaveGiven decimals rows true readings = AreGood decimals rows readings

-- a row isn't taken behind other rows if it is bad, which its number tells, or if memory ran out for the reading that
-- it says behind good rows
abbrev pub IsRowFault : (decimals : ℕ) → List Row → Row → ReadingsFault → Type 0
IsRowFault decimals rows row TooLong = ⊥
IsRowFault decimals rows row (BadRow number) = (number ≡ length rows + 1) × IsBadBehind decimals rows row
IsRowFault decimals rows row NoMemory =
    (readings : List Reading) × (reading : Reading) × AreGood decimals rows readings
    × IsRowOfReading decimals row reading
