-- Rules: what writes of a part of the store leave of a board. A part is `count` places from `start` on.
use Rattle.std.specs.Prelude.{ℕ, ◌+◌, ◌≡◌, ◌≤◌, ◌⊎◌, List}
use Rattle.slot_store.specs.{Common.{Ghosts, IsWithin, LeavesOnly, MayLeave, SameBut}, Sizes.{pair_size}}

-- a place is among some places or within a piece if it is one of those places, or one of the `count` places from
-- `at` on
abbrev pub OrWithin : (ℕ → Type 0) → ℕ → ℕ → ℕ → Type 0
OrWithin places at count place = places place ⊎ IsWithin at count place

-- a pair of slots that begins at `at` is apart from a part if the part ends before the pair, or begins behind it
abbrev pub IsApart : ℕ → ℕ → ℕ → Type 0
IsApart at start count = (start + count ≤ at) ⊎ (at + pair_size ≤ start)

-- a cut leaves the text that was printed, an image of a kind, and outside a part only what it might have left at the
-- start
pub record LeavesBeside (image : List ℕ) (in_flight : ℕ → Type 0) (printed : List ℕ) (start count : ℕ)
    (kind : List ℕ → Type 0) (left_image left_text : List ℕ) : Type 0 where
  pub stands : kind left_image
  pub beside : MayLeave image (OrWithin in_flight start count) printed left_image left_text

module _ {D L : Type 0} {N : ℕ} (B : Ghosts D N L) where
  -- writes lie in a part if outside it the image is as it was, but for what was in flight, no more is in flight, and
  -- nothing was printed
  pub record WritesIn (start count : ℕ) (old new : D) : Type 0 where
    pub rest : SameBut (OrWithin (B.in_flight old) start count) (B.image old) (B.image new)
    pub flight : (place : ℕ) → B.in_flight new place → OrWithin (B.in_flight old) start count place
    pub text : B.printed new ≡ B.printed old

  -- a run leaves a kind of image throughout if a cut at each of its moments leaves an image of that kind, and outside a
  -- part only what a cut of the old board might leave; the new board has an image of that kind too
  pub record LeavesThroughout (start count : ℕ) (kind : List ℕ → Type 0) (old new : D) : Type 0 where
    pub leaves : LeavesOnly B old new (LeavesBeside (B.image old) (B.in_flight old) (B.printed old) start count kind)
    pub holds : kind (B.image new)
