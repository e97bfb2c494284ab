-- Rules: how far a source of a drive is, and what it gives.
use Rattle.std.specs.Prelude.{ℕ, ◌++◌, ◌+◌, ◌<◌, ◌≡◌, ◌≤◌, List, false, length}
use Rattle.drive_text.specs.{Drive.{runs_after}, Ending.{IsGoing, IsSplit, ReachesEnd, stream_limit}}
use Rattle.drive_source.specs.Common.{HasTaken, Reading, Run}
use Rattle.drive_source.specs.declared.source.Stop.{Stop, TheVariants.{BadLine, ReadFault, TooLong, Whole}}
use Rattle.drive_text.specs.Ending as ends

-- the progress of a source is its reader of lines, the bytes that were taken from the file and not yet given to the
-- reader, and how many more may be taken
pub record Progress : Type 0 where
  pub reading : Reading
  pub ahead : List ℕ
  pub left : ℕ

-- a source has given bytes of a drive if their runs were given and none of their lines is bad
pub record HasGiven (progress : Progress) (given : List ℕ) : Type 0 where
  pub read : HasTaken progress.reading given
  pub going : progress.reading.failed ≡ false
  pub count : length given + (length progress.ahead + progress.left) ≡ stream_limit

-- a source gives the runs of further bytes, of which there is at least one, and which come from the front of what was
-- left, if that is told
pub record GivesRuns (told : Type 0) (old new : Progress) (rest rest' given : List ℕ) (runs : List Run) : Type 0 where
  pub fed : List ℕ
  pub some : 0 < length fed
  pub goes_on : HasGiven new (given ++ fed)
  pub runs_are : runs ≡ runs_after given fed
  pub passes : told → old.ahead ++ rest ≡ fed ++ (new.ahead ++ rest')

-- a reading of a drive ends for a reason if the bytes that were taken tell the drive's end, or a read failed
abbrev pub EndsBy : (drive taken left : List ℕ) → Stop → Type 0
EndsBy drive taken left Whole = ReachesEnd drive taken left ends.Whole
EndsBy drive taken left (BadLine line) = ReachesEnd drive taken left (ends.BadAt line)
EndsBy drive taken left TooLong = ReachesEnd drive taken left ends.Endless
EndsBy drive taken left ReadFault = IsGoing taken

-- a source is filled if there are bytes ahead, which are the front of what was left, if that is told
pub record Fills (told : Type 0) (old new : Progress) (rest rest' : List ℕ) : Type 0 where
  pub some : 0 < length new.ahead
  pub stands : (given : List ℕ) → HasGiven old given → HasGiven new given
  pub passes : told → old.ahead ++ rest ≡ new.ahead ++ rest'

-- a source stops for a reason if the runs of the last good lines were given and no more of the drive is read
pub record StopsBy (told : Type 0) (old : Progress) (rest rest' given : List ℕ) (runs : List Run)
    (stop : Stop) : Type 0 where
  pub fed : List ℕ
  pub few : length (given ++ fed) ≤ stream_limit
  pub runs_are : runs ≡ runs_after given fed
  pub split : told → IsSplit (given ++ (old.ahead ++ rest)) (given ++ fed) rest'
  pub ends : told → EndsBy (given ++ (old.ahead ++ rest)) (given ++ fed) rest' stop
