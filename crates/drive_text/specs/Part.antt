-- For proofs: what becomes of one part of a piece, which is a line with its LF, or what is left of the piece if no LF
-- comes.
use Rattle.std.specs.Prelude.{ℕ, ◌++◌, ◌+◌, ◌<◌, ◌≡◌, ◌≤◌, All, List, false, length, take, true}
use Rattle.drive_text.specs.{Drive.{runs_in}, Ranges.{IsRunInRange}}
use Rattle.drive_text.specs.{Reading.{HasTaken, Reading}, declared.{run.Run.{Run}, state.State.{State}}}

-- the state of a reader, as contracts see it
abbrev pub reading_of : State → Reading
reading_of state =
    record { begun = state.begun; kept = state.kept.items; comment = state.comment; failed = state.failed }

-- a reader takes the part of a piece that is in front of the rest: it appends the part's runs, of which none comes
-- before the part's end
pub record TakesPart (old new : Reading) (piece rest : List ℕ) (before after : List Run) : Type 0 where
  pub part : List ℕ
  pub split : piece ≡ part ++ rest
  pub some : 0 < length part
  pub going : new.failed ≡ false
  pub counted : new.begun ≤ old.begun + 1
  pub reader : (bytes : List ℕ) → HasTaken old bytes → HasTaken new (bytes ++ part)
  pub runs : List Run
  pub added : after ≡ before ++ runs
  pub in_range : All IsRunInRange runs
  pub read : (bytes : List ℕ) → HasTaken old bytes → runs_in (bytes ++ part) ≡ runs_in bytes ++ runs
  pub quiet : (bytes : List ℕ) (count : ℕ) → count < length part → runs_in (bytes ++ take count part) ≡ runs_in bytes

-- a reader fails in a piece at the line of this number
pub record FailsIn (old new : Reading) (piece : List ℕ) (line : ℕ) : Type 0 where
  pub failed : new.failed ≡ true
  pub number : new.begun ≡ line
  pub counted : new.begun ≤ old.begun + 1
  pub reader : (bytes : List ℕ) → HasTaken old bytes → HasTaken new (bytes ++ piece)
  pub read : (bytes : List ℕ) → HasTaken old bytes → runs_in (bytes ++ piece) ≡ runs_in bytes
