-- Rules: calls that write nothing.
use Rattle.std.specs.Prelude.{ℕ, ◌≡◌, ◌≢◌, ◌≤◌, ◌⊎◌, List}
use Rattle.{outside.specs.{Disk.{SameBut}, Runs.{MayHold}}, slot_store.specs.Syncs.{LeavesFromSync}}
use Rattle.call_ends.specs.Common.{Ghosts}

module _ {D L : Type 0} {N : ℕ} (B : Ghosts D N L) where
  -- nothing was written if bytes may have changed only in places that were in flight, and no other place is in flight
  -- now. A cut at a moment since any earlier one may leave what it might have left before, or an image that it might
  -- have left at the old board
  pub record LeavesUnwritten (old new : D) : Type 0 where
    pub image : SameBut (B.in_flight old) (B.image old) (B.image new)
    pub flight : (place : ℕ) → B.in_flight new place → B.in_flight old place
    pub later : B.moment old ≤ B.moment new
    pub before : (start : ℕ) (left_image left_text : List ℕ) → start ≤ B.moment old
        → B.left_since new start left_image left_text
        → B.left_since old start left_image left_text ⊎ MayHold (B.image old) (B.in_flight old) left_image

  -- a call leaves the image if a cut from its opening sync on leaves the image as it was
  abbrev pub LeavesImage : (fails : Type 0) (old new : D) → Type 0
  LeavesImage fails old new = LeavesFromSync B fails old new (λ left_image left_text. left_image ≡ B.image old)

  -- a call writes nothing if nothing was written, and no byte has changed, unless it ended with 8
  pub record WritesNothing (old new : D) (ended : ℕ) : Type 0 where
    pub bytes : LeavesUnwritten old new
    pub same : ended ≢ 8 → B.image new ≡ B.image old
