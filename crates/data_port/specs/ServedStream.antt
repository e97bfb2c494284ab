-- Rules: a stream of requests that is served, how it ends, and what is printed of it.
use Rattle.std.specs.{List.{flat_map}, Prelude.{ℕ, ◌++◌, ◌+◌, ◌<◌, ◌≡◌, ◌≤◌, Err, List, Ok, Result, false, length}}
use Rattle.{taxi_units.specs.Streams.{StreamKind, end_of, given_of}, data_port.specs.declared.request.Request.{Request}}
use Rattle.data_port.specs.Common.{Begins, BoardFault, Durable, Frame, PortFault, ReadFault, Seal, TooLong}
use Rattle.data_port.specs.Reading.{HasTaken, Standing, bad_at_end, first_bad, requests_after, requests_in}
use Rattle.data_port.specs.Reply.{reply_to}
use Rattle.taxi_units.specs.Streams as streams
pub use Rattle.taxi_units.specs.Streams.{BadAt, Endless, IsSplit, StopsAfter, StreamEnd, Whole, stream_limit}

-- requests are the kind of streams that tells of bytes the first place whose byte no requests have there
abbrev pub requests : StreamKind
requests = record { first_bad = first_bad; bad_at_end = bad_at_end }

-- a stream of requests ends at its first bad place, which may be its end, or whole, or endless
abbrev pub stream_end : List ℕ → StreamEnd
stream_end stream = end_of requests stream

-- the requests of a stream are those in its bytes up to the limit
abbrev pub requests_of : List ℕ → List Request
requests_of stream = given_of requests_in stream

-- a stream of requests goes on after the bytes that were taken if none of their places is bad and they are fewer than
-- the limit
abbrev pub IsGoing : (taken : List ℕ) → Type 0
IsGoing taken = streams.IsGoing requests taken

-- bytes of a stream of requests that were taken, and those that are left, show an end if they show it of requests as a
-- kind of streams
abbrev pub ShowsEnd : StreamEnd → (taken left : List ℕ) → Type 0
ShowsEnd reached taken left = streams.ShowsEnd requests reached taken left

-- the replies to requests are the reply to each, one behind the other
abbrev pub replies : Durable → Seal → List Request → List ℕ
replies durable seal requests = flat_map (reply_to durable seal) requests

-- one piece more of a stream was served if it has `count` bytes, at least one, which are the front of what was left, if
-- that is told; the port has taken it behind the bytes before it, none of which is bad; and the replies to the requests
-- that end in it were printed, if the text is told, in at most one step each. No further byte was taken.
pub record ServesMore (known told : Type 0) (durable : Durable) (seal : Seal) (old new : Standing)
    (rest rest' before now : List ℕ) (steps steps' count : ℕ) : Type 0 where
  pub piece : List ℕ
  pub long : length piece ≡ count
  pub some : 0 < count
  pub split : known → rest ≡ piece ++ rest'
  pub going : new.failed ≡ false
  pub taken : (bytes : List ℕ) → HasTaken old bytes → HasTaken new (bytes ++ piece)
  pub printed : told → (bytes : List ℕ) → HasTaken old bytes
      → now ≡ before ++ replies durable seal (requests_after bytes piece)
  pub bounded : (bytes : List ℕ) → HasTaken old bytes → steps' ≤ steps + length (requests_after bytes piece)

-- steps are bounded by a stream if at most one was counted for each request in the bytes that were taken
pub record IsBoundedByRequests (stream left : List ℕ) (before now : ℕ) : Type 0 where
  pub taken : List ℕ
  pub split : IsSplit stream taken left
  pub bound : now ≤ before + length (requests_in taken)

-- a stream was served to an end if it is taken to it, and all requests of the stream are in the bytes taken
abbrev pub ReachesEnd : (stream taken left : List ℕ) → StreamEnd → Type 0
ReachesEnd stream taken left reached = streams.ReachesEnd requests requests_in stream taken left reached

module _ (told : Type 0) (durable : Durable) (seal : Seal) (stream left before now : List ℕ) where
  -- the replies to the requests in the bytes that were taken were printed, if the text is told
  abbrev pub Printed : (taken : List ℕ) → Type 0
  Printed taken = told → now ≡ before ++ replies durable seal (requests_in taken)

  -- a beginning of the replies to the requests in the bytes that were taken was printed, if the text is told
  abbrev pub PrintedSome : (taken : List ℕ) → Type 0
  PrintedSome taken = told → Begins before now (replies durable seal (requests_in taken))

  -- a stream was served to an end if it reaches that end and the replies to all of its requests were printed
  pub record ServesTo (reached : StreamEnd) : Type 0 where
    pub taken : List ℕ
    pub ends : ReachesEnd stream taken left reached
    pub printed : told → now ≡ before ++ replies durable seal (requests_of stream)

  -- serving answers how it ended: at an end of the stream; at a read that failed, after the replies to the requests in
  -- the bytes that were taken; or at a fault of the board, after a beginning of the replies to them
  abbrev pub Serves : {T : Type 0} → Result T PortFault → Type 0
  Serves (Ok done) = ServesTo Whole
  Serves (Err (Frame place)) = ServesTo (BadAt place)
  Serves (Err TooLong) = ServesTo Endless
  Serves (Err ReadFault) = StopsAfter stream left IsGoing Printed
  Serves (Err BoardFault) = StopsAfter stream left (λ taken. Unit {0}) PrintedSome
