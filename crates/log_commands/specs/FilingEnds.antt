-- Rules: how the filing of a roll ends, and which list of receipts it leaves.
use Rattle.std.specs.Prelude.{[], ℕ, ◌++◌, ◌∷◌, ◌≡◌, ◌≤◌, List, None, Option, Some, length, take}
use Rattle.log_commands.specs.{Common.{FileEnd, stream_limit}, Filed.{EndsAt, Files}, LogList.{StandsForLast}}
use Rattle.log_commands.specs.{Record.{Record}, Roll.{AreOnRoll}}
use Rattle.log_commands.specs.declared.file_roll.FileEnd.TheVariants.{Filed, OtherTaxi, ReadFault, TooLong}

-- the newest record behind some records is the last of them, or the one that was the newest before if they are none
abbrev pub newest_after : Option Record → List Record → Option Record
newest_after newest [] = newest
newest_after newest (it ∷ more) = newest_after (Some it) more

-- the newest record of a list, which has its oldest record first, is its last one, and there is none if the list is
-- empty
abbrev pub newest_of : List Record → Option Record
newest_of records = newest_after None records

-- an image stands for a list with some of the filed if it stands for the last 256, or the last 255, of the list with
-- some first ones of the filed behind it
pub record StandsForSome (records filed : List Record) (image : List ℕ) : Type 0 where
  pub count : ℕ
  pub within : count ≤ length filed
  pub stands : StandsForLast (records ++ take count filed) image

-- the filing of a roll, of which `rest` is not taken, ends as its answer says: `Filed` if the whole roll was taken,
-- `OtherTaxi` at the first receipt of another taxi, `TooLong` if 2^40 bytes were taken, `ReadFault` anywhere. The
-- receipts that are filed, behind which `last` is the newest record, are those of the bytes taken
abbrev pub EndsAs : FileEnd → (newest : Option Record) → (roll rest : List ℕ) → (filed : List Record)
    → (last : Option Record) → Type 0
EndsAs (Filed count) newest roll rest filed last =
    (rest ≡ []) × ((receipts : List Record) × AreOnRoll receipts roll × Files newest receipts filed last)
EndsAs (OtherTaxi place) newest roll rest filed last =
    (taken : List ℕ) × (roll ≡ taken ++ rest) × EndsAt newest taken filed last place
EndsAs TooLong newest roll rest filed last =
    (taken : List ℕ) × (receipts : List Record) × (roll ≡ taken ++ rest) × (length taken ≡ stream_limit)
    × AreOnRoll receipts taken × Files newest receipts filed last
EndsAs ReadFault newest roll rest filed last =
    (taken : List ℕ) × (receipts : List Record) × (roll ≡ taken ++ rest)
    × AreOnRoll receipts taken × Files newest receipts filed last

-- an end tells how many receipts were filed if it is `Filed`, and then it tells the right number
abbrev pub IsTold : FileEnd → (filed : List Record) → Type 0
IsTold (Filed count) filed = count ≡ length filed
IsTold (OtherTaxi place) filed = Unit {0}
IsTold TooLong filed = Unit {0}
IsTold ReadFault filed = Unit {0}
