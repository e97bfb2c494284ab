-- Rules: how a call of `rows` ends, and what it prints.
use Rattle.std.specs.Prelude.{[], ℕ, ◌++◌, ◌+◌, ◌∷◌, ◌≡◌, ◌≤◌, ◌⊎◌, List, length}
use Rattle.outside.specs.declared.files.Files.{Ghosts as FileGhosts}
use Rattle.receipt_reading.specs.ReceiptRows.{heading, rows_of}
use Rattle.log_commands.specs.Common.{AreOnRoll, Begins, Ended, Ghosts, KeepsStore, Listed, Printed, ReadFault, Reads}
use Rattle.log_commands.specs.{Common.{RollEnd, Rose, TooLong, stream_limit}, Endings.{line_of, status_of}}
use Rattle.receipt_reading.specs.declared.roll.RollEnd.TheVariants as rolls

-- the listing of receipts is the heading and then a row for each of them
abbrev pub listing_of : List Printed → List ℕ
listing_of receipts = heading ++ rows_of receipts

-- a call of `rows` ends as its roll does: with the roll read to its end, with one that is too long, or with a read that
-- failed
abbrev pub rows_end : RollEnd → Ended
rows_end rolls.Whole = Listed
rows_end rolls.TooLong = TooLong
rows_end rolls.ReadFault = ReadFault

-- before its last line `rows` shows the listing of the receipts of the bytes taken, and nothing if the first reading
-- failed, so that no byte was taken
abbrev pub listed_of : RollEnd → (taken : List ℕ) → (receipts : List Printed) → List ℕ
listed_of rolls.Whole taken receipts = listing_of receipts
listed_of rolls.TooLong taken receipts = listing_of receipts
listed_of rolls.ReadFault [] receipts = []
listed_of rolls.ReadFault (byte ∷ bytes) receipts = listing_of receipts

-- the text of a call of `rows` is what it shows, and then its last line
abbrev pub rows_text : RollEnd → (taken : List ℕ) → (receipts : List Printed) → List ℕ
rows_text end taken receipts = listed_of end taken receipts ++ line_of (rows_end end)

-- a roll may end so if nothing is left of it, if as many bytes were taken as may be, or if a read failed
abbrev pub MayEndSo : RollEnd → (taken rest : List ℕ) → (read_failed : Type 0) → Type 0
MayEndSo rolls.Whole taken rest read_failed = rest ≡ []
MayEndSo rolls.TooLong taken rest read_failed = length taken ≡ stream_limit
MayEndSo rolls.ReadFault taken rest read_failed = read_failed

-- a roll is gone through to an end if the end has its reason and the receipts are those of the bytes taken
pub record IsGoneThrough (taken rest : List ℕ) (read_failed : Type 0) (receipts : List Printed)
    (end : RollEnd) : Type 0 where
  pub ends : MayEndSo end taken rest read_failed
  pub are : AreOnRoll receipts taken

-- a text is being printed by `rows` if it is the listing of the receipts that were read so far, or the whole text of a
-- call that has gone through the roll
abbrev pub IsToPrint : (taken rest : List ℕ) → (read_failed : Type 0) → (receipts : List Printed) → (text : List ℕ)
    → Type 0
IsToPrint taken rest read_failed receipts text =
    ((unread : List ℕ) × Reads taken receipts unread × (text ≡ listing_of receipts))
    ⊎ ((end : RollEnd) × IsGoneThrough taken rest read_failed receipts end × (text ≡ rows_text end taken receipts))

module _ {E D L : Type 0} {N : ℕ} (F : FileGhosts E) (B : Ghosts D N L) (files files' : E) (log log' : D) where
  -- `rows` ends whole if it has gone through the roll, and the text and the status are those of the roll's end
  pub record ListsWhole (taken : List ℕ) (receipts : List Printed) (status : ℕ) : Type 0 where
    pub end : RollEnd
    pub through : IsGoneThrough taken (F.rest files' 1) (Rose (F.faults files 1) (F.faults files' 1)) receipts end
    pub status_is : status ≡ status_of (rows_end end)
    pub printed : B.tells_text → B.printed log' ≡ B.printed log ++ rows_text end taken receipts

  -- `rows` is cut short if the board failed: its status is 8, and a beginning of what it was printing was printed
  pub record ListsShort (taken : List ℕ) (receipts : List Printed) (status : ℕ) : Type 0 where
    pub status_is : status ≡ 8
    pub failed : Rose (B.faults log) (B.faults log')
    pub text : List ℕ
    pub of : IsToPrint taken (F.rest files' 1) (Rose (F.faults files 1) (F.faults files' 1)) receipts text
    pub begun : B.tells_text → Begins (B.printed log) (B.printed log') text

  -- a call of `rows` is carried out if it takes at most 2^40 bytes of the roll and ends whole or is cut short. It
  -- leaves the log alone, and takes a step for the heading, for each receipt's row, and for its last line
  pub record IsRowsCall (steps steps' status : ℕ) : Type 0 where
    pub taken : List ℕ
    pub receipts : List Printed
    pub roll_is : F.rest files 1 ≡ taken ++ F.rest files' 1
    pub few : length taken ≤ stream_limit
    pub ends : ListsWhole taken receipts status ⊎ ListsShort taken receipts status
    pub keeps : KeepsStore B log log'
    pub steps_few : steps' ≤ steps + 2 + length receipts
