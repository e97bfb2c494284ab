-- Rules: what a call leaves of a board that it syncs before anything else.
use Rattle.std.specs.Prelude.{ℕ, ◌≡◌, ◌⊎◌, List}
use Rattle.slot_store.specs.Common.{Ghosts, IsAtRest, LeavesOnly, MayLeave, SameBut}

module _ {D L : Type 0} {N : ℕ} (B : Ghosts D N L) where
  -- a run only reads if bytes changed at most where some were in flight, no more is in flight, nothing was printed,
  -- and a cut leaves what it might have left at the old board
  pub record ReadsOnly (old new : D) : Type 0 where
    pub leaves : LeavesOnly B old new (MayLeave (B.image old) (B.in_flight old) (B.printed old))
    pub image : SameBut (B.in_flight old) (B.image old) (B.image new)
    pub flight : (place : ℕ) → B.in_flight new place → B.in_flight old place
    pub text : B.printed new ≡ B.printed old

  -- a board is synced, after the opening sync of a call, if nothing was written before, the image is as it was, and
  -- nothing is in flight
  pub record IsSynced (old synced : D) : Type 0 where
    pub reads : ReadsOnly old synced
    pub same : B.image synced ≡ B.image old
    pub settled : IsAtRest B synced

  -- a call leaves a kind of image and text from its opening sync on if a cut after that sync leaves only that kind, and
  -- one before it only what it might have left before the call; if it `fails`, it may have written nothing instead
  abbrev pub LeavesFromSync : (fails : Type 0) (old new : D) (kind : List ℕ → List ℕ → Type 0) → Type 0
  LeavesFromSync fails old new kind =
      (fails × ReadsOnly old new) ⊎ ((synced : D) × IsSynced old synced × LeavesOnly B synced new kind)

  -- an image and a text are as held if they are those that a board holds
  pub record IsAsHeld (board : D) (left_image left_text : List ℕ) : Type 0 where
    pub image : left_image ≡ B.image board
    pub text : left_text ≡ B.printed board

  -- a call syncs first if a cut from its opening sync on leaves what the board held before the call, and, unless it
  -- fails, the image is as it was and nothing is in flight
  pub record SyncsFirst (fails : Type 0) (old new : D) : Type 0 where
    pub leaves : B.tells_image → LeavesFromSync fails old new (IsAsHeld old)
    pub same : ¬ fails → B.image new ≡ B.image old
    pub settled : B.tells_image → ¬ fails → IsAtRest B new
