-- Rules: what a run of calls leaves of a board, over the meanings of the board as a whole.
use Rattle.std.specs.Prelude.{ℕ, ◌≡◌, ◌≤◌, ◌⊎◌, List}
use Rattle.outside.specs.{Common.{AreBytes}, Disk.{MayLeave, PieceTakes, SameBut}, declared.printer.Printer.{Ghosts}}

-- a store may hold an image after a cut if it is what a read gives but for any bytes at the places in flight
pub record MayHold (image : List ℕ) (in_flight : ℕ → Type 0) (left_image : List ℕ) : Type 0 where
  pub bytes : SameBut in_flight image left_image
  pub small : AreBytes left_image

module _ {D L : Type 0} {N : ℕ} (B : Ghosts D N L) where
  -- a board is settled if no place is in flight, so that a cut leaves what a read gives
  abbrev pub IsAtRest : D → Type 0
  IsAtRest board = (place : ℕ) → ¬ B.in_flight board place

  -- a run leaves only a kind of image and text if whatever is left since its beginning is of that kind, and whatever is
  -- left since an earlier moment is so or was left before the run
  pub record LeavesOnly (old new : D) (kind : List ℕ → List ℕ → Type 0) : Type 0 where
    pub later : B.moment old ≤ B.moment new
    pub each : (left_image left_text : List ℕ) → B.left_since new (B.moment old) left_image left_text
        → kind left_image left_text
    pub before : (start : ℕ) (left_image left_text : List ℕ) → start ≤ B.moment old
        → B.left_since new start left_image left_text → B.left_since old start left_image left_text
        ⊎ kind left_image left_text

  -- a run keeps the store if a read gives what it gave, nothing more is in flight, and whatever is left since an
  -- earlier moment was left before the run, or the store may hold its image after a cut at the beginning
  pub record KeepsStore (old new : D) : Type 0 where
    pub same : B.image new ≡ B.image old
    pub flight : (place : ℕ) → B.in_flight new place → B.in_flight old place
    pub later : B.moment old ≤ B.moment new
    pub before : (start : ℕ) (left_image left_text : List ℕ) → start ≤ B.moment old
        → B.left_since new start left_image left_text → B.left_since old start left_image left_text
        ⊎ MayHold (B.image old) (B.in_flight old) left_image

  -- a print of a piece takes the time between two states if a cut in it might leave only what was printed before, with
  -- a beginning of the piece
  abbrev pub PrintTakes : D → D → List ℕ → Type 0
  PrintTakes old new piece = PieceTakes B.moment B.left_since B.image B.in_flight B.printed piece old new

  -- a board leaves what it holds now if a cut since its moment might have left only what a cut may leave now
  abbrev pub LeavesNow : D → Type 0
  LeavesNow board = (left_image left_text : List ℕ) → B.left_since board (B.moment board) left_image left_text
      → MayLeave (B.image board) (B.in_flight board) (B.printed board) left_image left_text
