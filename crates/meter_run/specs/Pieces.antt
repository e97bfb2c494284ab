-- Rules: a drive that is carried out piece by piece, so that no event waits for bytes behind those of its line.
use Rattle.std.specs.Prelude.{[], ℕ, ◌++◌, ◌<◌, ◌≡◌, ◌≤◌, List, length}
use Rattle.{drive_source.specs.Source.{Progress}, meter_run.specs.Common.{Event, HasGiven, events_in}}
use Rattle.meter_run.specs.Drives.{IsBounded}

-- a source is through with bytes of a drive if it has given them, and of what was taken nothing is ahead of it
pub record IsThrough (place : Progress) (taken : List ℕ) : Type 0 where
  pub given : HasGiven place taken
  pub none : place.ahead ≡ []

-- the events of bytes are carried out if all of them were, from the first byte of the drive on, and the count of steps
-- rose from `before` to `now` by at most 64 for each
pub record AreCarried (taken : List ℕ) (carried : List Event → Type 0) (before now : ℕ) : Type 0 where
  pub all : carried (events_in taken)
  pub bounded : IsBounded before now (events_in taken)

-- a piece of a drive is carried out behind the bytes that were taken before if it has 1 to 512 bytes, which are the
-- front of what was left, if that is told; the source is through with it, and the events of all bytes that were taken,
-- those of the piece too, are carried out
pub record CarriesPiece (told : Type 0) (new : Progress) (rest rest' before : List ℕ) (carried : List Event → Type 0)
    (start now : ℕ) : Type 0 where
  pub piece : List ℕ
  pub some : 0 < length piece
  pub few : length piece ≤ 512
  pub split : told → rest ≡ piece ++ rest'
  pub through : IsThrough new (before ++ piece)
  pub done : AreCarried (before ++ piece) carried start now

-- what is ahead of a source is carried out behind the bytes given before if the source is through with it, and the
-- events of all bytes that were taken are carried out
pub record CarriesAhead (old new : Progress) (before : List ℕ) (carried : List Event → Type 0)
    (start now : ℕ) : Type 0 where
  pub through : IsThrough new (before ++ old.ahead)
  pub done : AreCarried (before ++ old.ahead) carried start now
