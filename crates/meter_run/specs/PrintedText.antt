-- Rules: a text that is printed on a board.
use Rattle.std.specs.Prelude.{ℕ, ◌++◌, ◌≡◌, List, OnOk, Result}
use Rattle.meter_run.specs.Common.{Begins, Ghosts, HasCause, KeepsStore, LeavesOnly, MayLeaveAmid}

module _ {D L : Type 0} {N : ℕ} (B : Ghosts D N L) where
  -- a call prints a text if it leaves the store as it is; a beginning of the text is printed, and with `Ok` all of it;
  -- the board's count of faults rises if it fails; and a cut of the power in it leaves a beginning of the text
  pub record PrintsText {T E : Type 0} (old : D) (text : List ℕ) (new : D) (result : Result T E) : Type 0 where
    pub whole : B.tells_text → OnOk result (B.printed new ≡ B.printed old ++ text)
    pub begun : B.tells_text → Begins (B.printed old) (B.printed new) text
    pub cause : HasCause (B.faults old) (B.faults new) result
    pub store : KeepsStore B old new
    pub leaves : LeavesOnly B old new (MayLeaveAmid (B.image old) (B.in_flight old) (B.printed old) text)
