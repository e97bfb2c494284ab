-- For proofs: what a reader of a roll has read, and what it still has. Reads, in Roll, says which receipts a roll has.
use Rattle.std.specs.Prelude.{[], ℕ, ◌++◌, ◌+◌, ◌<◌, ◌≡◌, ◌≢◌, ◌≤◌, ◌⊎◌, List, None, Option, Some, is_some, length}
use Rattle.{taxi_units.specs.Streams.{IsSplit, ShowsEnd, StreamKind}, receipt_reading.specs.Roll.{Reads}}
use Rattle.{outside.specs.declared.files.Files.{Ghosts as FileGhosts}, receipt_reading.specs.Printed.{Printed}}
use Rattle.receipt_reading.specs.{Common.{LeavesOthers, MayRise, RisesOnlyIf, stream_limit}, ReceiptSearch.{MayFollow}}
use Rattle.receipt_reading.specs.declared.roll.RollEnd.{RollEnd, TheVariants.{ReadFault, TooLong, Whole}}
use Rattle.taxi_units.specs.Streams as streams

-- a reader's place is the bytes taken that it hasn't looked through to the end, how many more it may take, and why it
-- takes no more, if it doesn't
pub record Place : Type 0 where
  pub ahead : List ℕ
  pub left : ℕ
  pub end : Option RollEnd

-- rolls are the kind of streams of which no place is bad, since what is no receipt is passed over
abbrev pub rolls : StreamKind
rolls = record { first_bad = λ bytes. None; bad_at_end = λ bytes. None }

-- a reader takes no more bytes for a reason that holds: the bytes that were taken, and those that are left, show that
-- end of the roll, or a read failed
abbrev pub EndsBy : Option RollEnd → (taken rest : List ℕ) → Type 0
EndsBy None taken rest = Unit {0}
EndsBy (Some Whole) taken rest = ShowsEnd rolls streams.Whole taken rest
EndsBy (Some TooLong) taken rest = ShowsEnd rolls streams.Endless taken rest
EndsBy (Some ReadFault) taken rest = Unit {0}

-- a reader is over for a reason if it takes no more bytes for it, and has looked all through
abbrev pub IsOver : Place → RollEnd → Type 0
IsOver place end = (place.end ≡ Some end) × (place.ahead ≡ [])

-- a reader has begun if a reading has succeeded: bytes were taken, or there were none
abbrev pub HasBegun : Place → Type 0
HasBegun place = (place.left < stream_limit) ⊎ (place.end ≡ Some Whole)

-- a reader fails in a call if it then takes no more bytes because a read failed, and that wasn't so before
abbrev pub FailsNow : (old new : Place) → Type 0
FailsNow old new = (new.end ≡ Some ReadFault) × (old.end ≢ Some ReadFault)

-- a reader has read receipts of a roll, of which `rest` is left in the file, if reading the bytes taken gives them,
-- whatever bytes may follow
pub record HasRead (roll : List ℕ) (place : Place) (rest : List ℕ) (receipts : List Printed) : Type 0 where
  pub taken : List ℕ
  pub split : IsSplit roll taken rest
  pub count : length taken + place.left ≡ stream_limit
  pub reads : (more : List ℕ) → MayFollow (is_some place.end) more
      → Reads (taken ++ more) receipts (place.ahead ++ more)
  pub ends : EndsBy place.end taken rest

-- a reader goes on from one place to another, over bytes of the file, if it then has read more receipts
abbrev pub GoesOn : (old new : Place) → (rest rest' : List ℕ) → (more : List Printed) → Type 0
GoesOn old new rest rest' more =
    (roll : List ℕ) (receipts : List Printed) → HasRead roll old rest receipts
    → HasRead roll new rest' (receipts ++ more)

module _ {E : Type 0} (F : FileGhosts E) (word : ℕ) where
  -- the roll of a word is being read, since the files were as they were first, if the reader has read these receipts of
  -- it, where the files tell, and no more of them than there are bytes; the word's count of faults rose if a read
  -- failed; and every other word's file has what it had
  pub record IsReading (first now : E) (place : Place) (receipts : List Printed) : Type 0 where
    pub read : F.tells → HasRead (F.rest first word) place (F.rest now word) receipts
    pub few : length receipts + (length place.ahead + place.left) ≤ stream_limit
    pub fault : RisesOnlyIf (place.end ≡ Some ReadFault) (F.faults first word) (F.faults now word)
    pub others : LeavesOthers F.rest word first now
    pub counts : (other : ℕ) → MayRise (place.end ≡ Some ReadFault) (F.faults first other) (F.faults now other)

  -- a call reads on if what was being read still is, with more receipts behind those that were read
  abbrev pub ReadsOn : (now now' : E) → (old new : Place) → (more : List Printed) → Type 0
  ReadsOn now now' old new more =
      (first : E) (receipts : List Printed) → IsReading first now old receipts
      → IsReading first now' new (receipts ++ more)
