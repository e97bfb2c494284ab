-- For proofs: a piece of a stream that is served. Serves, in ServedStream, says what serving the whole stream gives.
use Rattle.std.specs.Prelude.{[], ℕ, ◌++◌, ◌+◌, ◌≡◌, ◌≤◌, ◌⊎◌, Err, List, None, Ok, Option, Result, Some, false, length}
use Rattle.data_port.specs.Common.{Begins, BoardFault, Durable, Frame, PortFault, ReadFault, Seal, TooLong}
use Rattle.data_port.specs.{Reading.{HasSense, HasTaken, bad_at_end}, ReadingStages.{after_bytes, bad_of, ended_in}}
use Rattle.data_port.specs.{ServedStream.{replies}, Standing.{Standing}}

module _ (told : Type 0) (durable : Durable) (seal : Seal) (old new : Standing) (piece before now : List ℕ) where
  -- a piece was served if all of it was, or all up to a bad place, or if the board failed after a beginning of its
  -- replies
  abbrev pub ServesPiece : {T : Type 0} → Result T PortFault → Type 0
  ServesPiece (Ok done) = (new ≡ after_bytes old piece) × (new.failed ≡ false)
      × (told → now ≡ before ++ replies durable seal (ended_in old piece))
  ServesPiece (Err (Frame place)) = (bad_of (after_bytes old piece) ≡ Some place)
      × (told → now ≡ before ++ replies durable seal (ended_in old piece))
  ServesPiece (Err TooLong) = ⊥
  ServesPiece (Err ReadFault) = ⊥
  ServesPiece (Err BoardFault) = told → Begins before now (replies durable seal (ended_in old piece))

-- a port goes on if it has taken some bytes, none of which is bad
pub record IsGoingPort (port : Standing) : Type 0 where
  pub sense : HasSense port
  pub going : port.failed ≡ false

-- the answer of a piece that wasn't served whole
abbrev pub failed : PortFault → Result (Unit {0}) PortFault
failed fault = Err fault

module _ (known told : Type 0) (durable : Durable) (seal : Seal) (most : ℕ) (old new : Standing)
    (rest rest' before now : List ℕ) (steps steps' : ℕ) where
  -- a call stopped in a piece of at most `most` bytes with a fault if the piece was the front of what was left, and was
  -- served up to the fault
  pub record StopsIn (fault : PortFault) : Type 0 where
    pub piece : List ℕ
    pub few : length piece ≤ most
    pub split : known → rest ≡ piece ++ rest'
    pub serves : ServesPiece told durable seal old new piece before now (failed fault)
    pub bounded : steps' ≤ steps + length (ended_in old piece)

  -- a call found the end of a stream if nothing was left, nothing was printed, and the stream ends so there
  pub record EndsHere (end : Option ℕ) : Type 0 where
    pub over : known → rest ≡ []
    pub over' : known → rest' ≡ []
    pub silent : now ≡ before
    pub still : steps' ≡ steps
    pub ends : (bytes : List ℕ) → HasTaken old bytes → bad_at_end bytes ≡ end

  -- a call found no byte if a read failed: what was left is left, and nothing was printed
  pub record ReadsNone : Type 0 where
    pub unread : known → rest' ≡ rest
    pub silent : now ≡ before
    pub still : steps' ≡ steps

  -- a call that serves at most one piece stops at the end of the stream, amid a piece, or at a read that failed
  abbrev pub StopsNext : Result (Option ℕ) PortFault → Type 0
  StopsNext (Ok (Some count)) = Unit {0}
  StopsNext (Ok None) = EndsHere None
  StopsNext (Err (Frame place)) = EndsHere (Some place) ⊎ StopsIn (Frame place)
  StopsNext (Err BoardFault) = StopsIn BoardFault
  StopsNext (Err ReadFault) = ReadsNone
  StopsNext (Err TooLong) = ⊥
