-- For proofs: what a call gives before its last line is printed. IsCall, in Calls, says what it gives in the end.
use Rattle.std.specs.Prelude.{ℕ, ◌*◌, ◌++◌, ◌+◌, ◌≡◌, ◌≤◌, ◌⊎◌, List, Option, Some, length}
use Rattle.{outside.specs.declared.files.Files.{Ghosts as FileGhosts}, log_commands.specs.Endings.{line_of, status_of}}
use Rattle.log_commands.specs.{Calls.{LeavesLog, MayEnd, shown_of}, Record.{Record}}
use Rattle.log_commands.specs.{Common.{Begins, BoardFault, Call, Ended, File, Ghosts, Rose}, LogList.{StandsFor}}

module _ {D L : Type 0} {N : ℕ} (B : Ghosts D N L) where
  -- the last line of a course is due if the call has ended so and what is shown before that line is printed
  pub record IsDue (course : Ended) (found : List Record) (log log' : D) (ended : Ended) : Type 0 where
    pub ended_is : ended ≡ course
    pub shown : B.tells_text → B.printed log' ≡ B.printed log ++ shown_of course found

  -- a course is broken off if the board failed before its last line
  pub record IsBrokenOff (course : Ended) (found : List Record) (log log' : D) (ended : Ended) : Type 0 where
    pub ended_is : ended ≡ BoardFault
    pub failed : Rose (B.faults log) (B.faults log')
    pub begun : B.tells_text → Begins (B.printed log) (B.printed log') (shown_of course found)

  -- an end is told if its last line is printed whole and its status given, or if a beginning of the line is printed,
  -- the board has failed and the status is 8
  abbrev pub IsTold : Ended → (log log' : D) → (status : ℕ) → Type 0
  IsTold ended log log' status =
      ((status ≡ status_of ended) × (B.tells_text → B.printed log' ≡ B.printed log ++ line_of ended))
      ⊎ ((status ≡ 8) × Rose (B.faults log) (B.faults log')
      × (B.tells_text → Begins (B.printed log) (B.printed log') (line_of ended)))

module _ {E D L : Type 0} {N : ℕ} (F : FileGhosts E) (B : Ghosts D N L) where
  -- a call reaches its last line if it ends on a course, for the course's reason, and that line is due or the course is
  -- broken off
  pub record CallReachesLine (call : Option Call) (files files' : E) (log log' : D) (steps steps' : ℕ)
      (ended : Ended) : Type 0 where
    pub course : Ended
    pub found : List Record
    pub filed : List Record
    pub may : MayEnd call (B.image log) (F.rest files 1) (F.rest files' 1) (Rose (F.faults files 1) (F.faults files' 1))
        (Rose (B.faults log) (B.faults log')) course found filed
    pub stands : IsDue B course found log log' ended ⊎ IsBrokenOff B course found log log' ended
    pub leaves : call ≡ Some File → (list : List Record) → StandsFor list (B.image log)
        → LeavesLog B list filed log log' (status_of ended)
    pub few : call ≡ Some File → steps' ≤ steps + 259 + 6 * length filed
