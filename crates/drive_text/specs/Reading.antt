-- Rules: what a reader of a drive does with the next piece of its bytes. What a reader keeps of the bytes before is
-- told by the law a_reader_is_known_by_its_bytes.
use Rattle.std.specs.Prelude.{ℕ, ◌++◌, ◌<◌, ◌≡◌, ◌≤◌, ◌⊎◌, List, None, Some, length, take}
use Rattle.drive_text.specs.{Drive.{first_bad, runs_after}, declared.run.Run.{Run}}
pub use Rattle.drive_text.specs.ReaderState.{HasFailed, HasSense, HasTaken, HasTakenLines, Reading, StandsIn}

-- a reader that has taken `before` takes a piece up to a place if no line is bad up to there and the runs of the bytes
-- taken are appended to the list. The place is the first at which the list has 64 runs, or else the piece's end
pub record TakesTo (before piece : List ℕ) (old new : List Run) (place : ℕ) : Type 0 where
  pub within : place ≤ length piece
  pub good : first_bad (before ++ take place piece) ≡ None
  pub runs : new ≡ old ++ runs_after before (take place piece)
  pub ends : (place ≡ length piece) ⊎ (length new ≡ 64)
  pub not_before : (sooner : ℕ) → sooner < place → length (old ++ runs_after before (take sooner piece)) < 64

-- a reader that has taken `before` finds the first bad line in a piece if the lines before it leave fewer than 64 runs
-- in the list
pub record BreaksIn (before piece : List ℕ) (old new : List Run) (line : ℕ) : Type 0 where
  pub bad : first_bad (before ++ piece) ≡ Some line
  pub runs : new ≡ old ++ runs_after before piece
  pub room : length new < 64
