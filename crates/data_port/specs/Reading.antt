-- Rules: what the bytes of a stream say, and what a port makes of a piece of them. The law
-- streams_are_read_by_their_frames says what requests and bad places are, by the streams that there are; ReadingStages
-- has how a port finds them.
use Rattle.std.specs.Prelude.{[], ℕ, ◌++◌, ◌<◌, ◌∷◌, ◌≡◌, ◌≤◌, ◌⊎◌, List, None, Option, Some, length, take}
use Rattle.data_port.specs.ReadingStages.{after_bytes, bad_end_of, bad_of, ended_in}
use Rattle.data_port.specs.declared.request.Request.{Request}
pub use Rattle.data_port.specs.Standing.{Standing, between}

-- ---- the bytes of a stream, from the first one on

-- the standing of a port after the bytes of a stream is what each byte in its turn makes of a port that has taken none;
-- `after_bytes` goes through the bytes, and the law streams_are_read_by_their_frames says what follows
abbrev pub standing_after : List ℕ → Standing
standing_after bytes = after_bytes (between 0) bytes

-- the requests in the bytes of a stream are those that are whole before the first bad place; `ended_in` gives them as
-- they end, and the law streams_are_read_by_their_frames says which they are
abbrev pub requests_in : List ℕ → List Request
requests_in bytes = ended_in (between 0) bytes

-- the requests that some bytes of a stream add are those that end in them, behind the bytes before
abbrev pub requests_after : (before bytes : List ℕ) → List Request
requests_after before bytes = ended_in (standing_after before) bytes

-- the first bad place in the bytes of a stream is the first whose byte no stream of requests has there, if there is
-- one; `bad_of` gives it as the port keeps it, and the law streams_are_read_by_their_frames says which it is
abbrev pub first_bad : List ℕ → Option ℕ
first_bad bytes = bad_of (standing_after bytes)

-- the first bad place of a stream that is at its end is the first bad one of its bytes, or else the place behind the
-- last byte if a request is unfinished; `bad_end_of` gives it as the port keeps it, as the law
-- streams_are_read_by_their_frames says
abbrev pub bad_at_end : List ℕ → Option ℕ
bad_at_end bytes = bad_end_of (standing_after bytes)

-- pieces of a stream that are taken in turn after other bytes of it give the requests that each piece adds to the bytes
-- before it
abbrev pub given_by : List ℕ → List (List ℕ) → List Request
given_by before [] = []
given_by before (piece ∷ pieces) = requests_after before piece ++ given_by (before ++ piece) pieces

-- ---- a port

-- a port has taken bytes, in whatever pieces they came, if it stands as a new port does after them
abbrev pub HasTaken : Standing → List ℕ → Type 0
HasTaken s bytes = s ≡ standing_after bytes

-- a port makes sense if it stands as a port does that has taken some bytes
abbrev pub HasSense : Standing → Type 0
HasSense s = (bytes : List ℕ) × HasTaken s bytes

-- a port takes a piece, behind the bytes before it, up to a place if none of the bytes up to there is bad and their
-- requests are appended to the list. The place is the first at which the list has 64 requests, or else the end of the
-- piece
pub record TakesTo (before piece : List ℕ) (old new : List Request) (place : ℕ) : Type 0 where
  pub within : place ≤ length piece
  pub good : first_bad (before ++ take place piece) ≡ None
  pub requests : new ≡ old ++ requests_after before (take place piece)
  pub ends : (place ≡ length piece) ⊎ (length new ≡ 64)
  pub not_before : (sooner : ℕ) → sooner < place → length (old ++ requests_after before (take sooner piece)) < 64

-- a port finds a bad place in a piece, behind the bytes before it, if the requests before that place are appended to
-- the list and leave it with fewer than 64
pub record BreaksIn (before piece : List ℕ) (old new : List Request) (place : ℕ) : Type 0 where
  pub bad : first_bad (before ++ piece) ≡ Some place
  pub requests : new ≡ old ++ requests_after before piece
  pub room : length new < 64
