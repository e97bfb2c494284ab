-- By law: what a reader of a drive keeps of the bytes that it has taken. The law a_reader_is_known_by_its_bytes says
-- that nothing else matters.
use Rattle.std.specs.Prelude.{[], ℕ, ◌+◌, ◌==◌, ◌≡◌, Bool, List, MatchOption, false, if◌then◌else◌, length, true}
use Rattle.drive_text.specs.{Drive.{first_bad_of}, Lines.{ended_lines, is_comment, unfinished_line}}

-- a reader keeps how many lines were begun, the bytes of an unfinished line that isn't a comment, whether the
-- unfinished line is a comment, and whether a bad line came
pub record Reading : Type 0 where
  pub begun : ℕ
  pub kept : List ℕ
  pub comment : Bool
  pub failed : Bool

-- a reader stands behind some ended lines, in an unfinished one, and no line was bad
pub record StandsIn (reading : Reading) (lines : List (List ℕ)) (unfinished : List ℕ) : Type 0 where
  pub going : reading.failed ≡ false
  pub begun : reading.begun ≡ (if length unfinished == 0 then length lines else length lines + 1)
  pub comment : reading.comment ≡ is_comment unfinished
  pub kept : reading.kept ≡ (if is_comment unfinished then [] else unfinished)

-- a reader has failed at the line of this number, and keeps no bytes
pub record HasFailed (reading : Reading) (line : ℕ) : Type 0 where
  pub failed : reading.failed ≡ true
  pub begun : reading.begun ≡ line
  pub kept : reading.kept ≡ []
  pub comment : reading.comment ≡ false

-- a reader has taken some ended lines and an unfinished one if it stands in the unfinished one, or has failed at the
-- first bad line
abbrev pub HasTakenLines : Reading → List (List ℕ) → List ℕ → Type 0
HasTakenLines reading lines unfinished =
    MatchOption (first_bad_of lines unfinished) (StandsIn reading lines unfinished) (HasFailed reading)

-- a reader has taken some bytes if it has taken their lines, in whatever pieces they came
abbrev pub HasTaken : Reading → List ℕ → Type 0
HasTaken reading bytes = HasTakenLines reading (ended_lines bytes) (unfinished_line bytes)

-- a reader has sense if it has taken some bytes, whichever they are
abbrev pub HasSense : Reading → Type 0
HasSense reading = (bytes : List ℕ) × HasTaken reading bytes
