-- Rules: how a drive ends, and what the bytes of it that were taken tell of that. It is a stream, whose bad places are
-- the numbers of its lines.
use Rattle.{std.specs.Prelude.{ℕ, List}, taxi_units.specs.Streams.{StreamKind, end_of, given_of}}
use Rattle.drive_text.specs.{Common.{Event}, Drive.{bad_at_end, events_in, first_bad}}
use Rattle.taxi_units.specs.Streams as streams
pub use Rattle.taxi_units.specs.Streams.{BadAt, Endless, IsSplit, StreamEnd, Whole, stream_limit}

-- drives are the kind of streams that tells of bytes their first bad line
abbrev pub drives : StreamKind
drives = record { first_bad = first_bad; bad_at_end = bad_at_end }

-- a drive ends at its first bad line, of which bytes behind its last LF may be one, or whole, or endless
abbrev pub drive_end : List ℕ → StreamEnd
drive_end drive = end_of drives drive

-- the events of a drive are those of its good lines before the first bad one, within the bytes up to the limit
abbrev pub events_of : List ℕ → List Event
events_of drive = given_of events_in drive

-- a drive goes on after the bytes that were taken if none of their lines is bad and they are fewer than the limit
abbrev pub IsGoing : (taken : List ℕ) → Type 0
IsGoing taken = streams.IsGoing drives taken

-- bytes of a drive that were taken, and those that are left, show how it ends
abbrev pub ShowsEnd : StreamEnd → (taken left : List ℕ) → Type 0
ShowsEnd reached taken left = streams.ShowsEnd drives reached taken left

-- what is left of a drive tells its end if the bytes taken before it show how the drive ends
abbrev pub TellsEnd : (drive left : List ℕ) → Type 0
TellsEnd drive left = streams.TellsEnd drives drive left

-- a reading reaches an end of a drive if the drive is taken to it, and the events that the bytes taken give are the
-- drive's
abbrev pub ReachesEnd : (drive taken left : List ℕ) → StreamEnd → Type 0
ReachesEnd drive taken left reached = streams.ReachesEnd drives events_in drive taken left reached
