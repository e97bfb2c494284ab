-- For proofs: what `rows` gives before its last line is printed. IsRowsCall, in RowsCalls, says what it gives in the
-- end.
use Rattle.std.specs.Prelude.{ℕ, ◌++◌, ◌+◌, ◌≡◌, ◌≤◌, ◌⊎◌, List, length}
use Rattle.outside.specs.declared.files.Files.{Ghosts as FileGhosts}
use Rattle.receipt_reading.specs.Reading.{HasBegun, IsReading, Place}
use Rattle.log_commands.specs.Common.{Begins, BoardFault, Ended, Ghosts, Printed, Reads, RollEnd, Rose, stream_limit}
use Rattle.log_commands.specs.RowsCalls.{IsGoneThrough, listed_of, listing_of, rows_end}

module _ {E D L : Type 0} {N : ℕ} (F : FileGhosts E) (B : Ghosts D N L) where
  -- the receipts read so far are listed, behind the heading, if the board has printed them and nothing else
  pub record IsListing (files files' : E) (log log' : D) (place : Place) (steps steps' : ℕ) : Type 0 where
    pub receipts : List Printed
    pub reading : IsReading F 1 files files' place receipts
    pub begun : HasBegun place
    pub printed : B.tells_text → B.printed log' ≡ B.printed log ++ listing_of receipts
    pub few : steps' ≤ steps + 1 + length receipts

  module _ (files files' : E) (log log' : D) (ended : Ended) where
    -- the last line is due if the roll is gone through and what is shown before that line is printed
    pub record IsRowsDue (taken : List ℕ) (receipts : List Printed) : Type 0 where
      pub end : RollEnd
      pub through : IsGoneThrough taken (F.rest files' 1) (Rose (F.faults files 1) (F.faults files' 1)) receipts end
      pub ended_is : ended ≡ rows_end end
      pub shown : B.tells_text → B.printed log' ≡ B.printed log ++ listed_of end taken receipts

    -- the listing is broken off if the board failed in it
    pub record IsRowsBroken (taken : List ℕ) (receipts : List Printed) : Type 0 where
      pub ended_is : ended ≡ BoardFault
      pub failed : Rose (B.faults log) (B.faults log')
      pub unread : List ℕ
      pub reads : Reads taken receipts unread
      pub begun : B.tells_text → Begins (B.printed log) (B.printed log') (listing_of receipts)

    -- `rows` reaches its last line if that is due or the listing is broken off
    pub record RowsReachLine (steps steps' : ℕ) : Type 0 where
      pub taken : List ℕ
      pub receipts : List Printed
      pub roll_is : F.rest files 1 ≡ taken ++ F.rest files' 1
      pub few : length taken ≤ stream_limit
      pub stands : IsRowsDue taken receipts ⊎ IsRowsBroken taken receipts
      pub steps_few : steps' ≤ steps + 1 + length receipts
