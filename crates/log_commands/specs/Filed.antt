-- Rules: which receipts of a roll are filed.
use Rattle.std.specs.Prelude.{[], ℕ, ◌++◌, ◌+◌, ◌<◌, ◌∷◌, ◌≡◌, ◌≢◌, ◌≤◌, List, None, Option, Some, length}
use Rattle.log_commands.specs.{Common.{stream_limit}, Record.{Record}}
use Rattle.log_commands.specs.{Roll.{Reads}, declared.filing.Filing.{Filing, TheVariants.{Appended, OtherTaxi, Passed}}}

-- a receipt is another taxi's if its taxi isn't the newest record's; beside an empty log no receipt is
abbrev pub IsOther : (newest : Option Record) → Record → Type 0
IsOther None receipt = ⊥
IsOther (Some newest) receipt = receipt.taxi ≢ newest.taxi

-- a receipt is older if it is of the newest record's taxi and its number isn't greater than that record's
abbrev pub IsOlder : (newest : Option Record) → Record → Type 0
IsOlder None receipt = ⊥
IsOlder (Some newest) receipt = (receipt.taxi ≡ newest.taxi) × (receipt.number ≤ newest.number)

-- a receipt is newer if it is of the newest record's taxi and its number is greater than that record's; beside an empty
-- log each receipt is
abbrev pub IsNewer : (newest : Option Record) → Record → Type 0
IsNewer None receipt = Unit {0}
IsNewer (Some newest) receipt = (receipt.taxi ≡ newest.taxi) × (newest.number < receipt.number)

-- a receipt of another taxi ends the filing, an older one is passed over, and a newer one is appended
abbrev pub IsFiledBy : Filing → (newest : Option Record) → Record → Type 0
IsFiledBy OtherTaxi newest receipt = IsOther newest receipt
IsFiledBy Passed newest receipt = IsOlder newest receipt
IsFiledBy Appended newest receipt = IsNewer newest receipt

-- receipts, none of another taxi, are gone through beside a log that has the newest record `newest`. A receipt newer
-- than the newest record when it comes is filed, an older one is passed over, and `last` is the newest record in the
-- end
pub data Files : (newest : Option Record) → (receipts filed : List Record) → (last : Option Record) → Type 0 where
  over : (newest : Option Record) → Files newest [] [] newest
  passed : (newest last : Option Record) (receipt : Record) (receipts filed : List Record) → IsOlder newest receipt
      → Files newest receipts filed last → Files newest (receipt ∷ receipts) filed last
  appended : (newest last : Option Record) (receipt : Record) (receipts filed : List Record) → IsNewer newest receipt
      → Files (Some receipt) receipts filed last → Files newest (receipt ∷ receipts) (receipt ∷ filed) last

-- a filing ends at a place of the roll, counted from 1, if the receipt there is of another taxi than the record that is
-- then the newest, and the receipts before it are filed
pub record EndsAt (newest : Option Record) (roll : List ℕ) (filed : List Record) (last : Option Record)
    (place : ℕ) : Type 0 where
  pub before : List Record
  pub other : Record
  pub rest : List ℕ
  pub reads : Reads roll (before ++ other ∷ []) rest
  pub files : Files newest before filed last
  pub differs : IsOther last other
  pub place_is : place ≡ length before + 1

-- receipts are filed of a roll, of which `rest` is not taken, if at most 2^40 bytes are taken, and exactly the receipts
-- `filed` are filed in going through the receipts that reading them gives. The log has the newest record `newest`
pub record IsFiledOf (newest : Option Record) (roll rest : List ℕ) (filed : List Record) : Type 0 where
  pub taken : List ℕ
  pub unread : List ℕ
  pub receipts : List Record
  pub last : Option Record
  pub roll_is : roll ≡ taken ++ rest
  pub few : length taken ≤ stream_limit
  pub reads : Reads taken receipts unread
  pub files : Files newest receipts filed last
