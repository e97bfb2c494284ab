-- For proofs: how a command ended before its last line is printed. Call and Course say what a call is.
use Rattle.std.specs.Prelude.{[], ℕ, ◌++◌, ◌≡◌, ◌≢◌, ◌⊎◌, List}
use Rattle.outside.specs.{Runs.{IsAtRest}, declared.files.Files.{Ghosts as FileGhosts}}
use Rattle.call_ends.specs.{Call.{MayTake}, Common.{TextFault, Unsound}, Unwritten.{LeavesImage, LeavesUnwritten}}
use Rattle.call_ends.specs.Common.{BadTariff, Begins, BoardFault, CheckFault, Ended, Ghosts, NoMemory, ReadFault, Rose}
use Rattle.call_ends.specs.Course.{Command, Course, call_text, line_in, shown_in, status_in}
use Rattle.call_ends.specs.LastLine.{line_of, status_of}
use Rattle.tariff_check.specs.declared.fault.CheckFault.TheVariants as checks
use Rattle.call_ends.specs.declared.tariff.TextFault.TheVariants as texts

-- a command ended by the fault for which its tariff wasn't read
abbrev pub ended_for : TextFault → Ended
ended_for texts.ReadFault = ReadFault
ended_for (texts.Refused why) = BadTariff why
ended_for texts.NoMemory = NoMemory

-- why a tariff isn't read if its check gives a fault: memory ran out, or the tariff is refused for this fault
abbrev pub unsound_for : CheckFault → TextFault
unsound_for checks.NoMemory = texts.NoMemory
unsound_for fault = texts.Refused (Unsound fault)

-- Below, `whole` holds of a text that was printed, and `begun` of one of which a beginning was. The rest is as in Call.
module _ (c : Command) (contents left : ℕ → List ℕ) (image : List ℕ) (read_failed : ℕ → Type 0) (board_failed : Type 0)
    (whole begun : List ℕ → Type 0) where
  -- the last line of a course is due if the command ended with the course's status and last line, and has printed what
  -- the course shows
  pub record IsDue (course : Course) (ended : Ended) : Type 0 where
    pub status_is : status_of ended ≡ status_in c contents image course
    pub line_is : line_of ended ≡ line_in c contents image course
    pub shown : whole (shown_in c contents image course)

  -- a course is broken off if the board failed before the last line, and a beginning of the course's text was printed
  pub record IsBrokenOff (course : Course) (ended : Ended) : Type 0 where
    pub ended_is : ended ≡ BoardFault
    pub failed : board_failed
    pub started : begun (call_text c contents image course)

  -- a command comes to an end if it may take a course, and the last line of that is due or the course is broken off
  pub record EndsByCourse (ended : Ended) : Type 0 where
    pub course : Course
    pub may : MayTake c contents left image read_failed board_failed course
    pub stands : IsDue course ended ⊎ IsBrokenOff course ended

-- a command comes to an end before anything was printed, and no board failed
abbrev pub EndsUnprinted : Command → (contents left : ℕ → List ℕ) → List ℕ → (ℕ → Type 0) → Ended → Type 0
EndsUnprinted c contents left image read_failed ended =
    EndsByCourse c contents left image read_failed ⊥ (λ text. text ≡ []) (λ text. ⊥) ended

module _ {E D L : Type 0} {N : ℕ} (F : FileGhosts E) (B : Ghosts D N L) where
  -- a command comes to an end on files and a board, by their contents, image, printed text and counts of faults
  abbrev pub EndsOnDevices : Command → (files files' : E) (board board' : D) → Ended → Type 0
  EndsOnDevices c files files' board board' ended =
      EndsByCourse c (F.rest files) (F.rest files') (B.image board)
      (λ word. Rose (F.faults files word) (F.faults files' word)) (Rose (B.faults board) (B.faults board'))
      (λ text. B.tells_text → B.printed board' ≡ B.printed board ++ text)
      (λ text. B.tells_text → Begins (B.printed board) (B.printed board') text) ended

module _ {D L : Type 0} {N : ℕ} (B : Ghosts D N L) where
  -- a command comes to an end on a board, whatever files it may have
  abbrev pub EndsOnBoard : Command → (contents left : ℕ → List ℕ) → (ℕ → Type 0) → (board board' : D) → Ended → Type 0
  EndsOnBoard c contents left read_failed board board' ended =
      EndsByCourse c contents left (B.image board) read_failed (Rose (B.faults board) (B.faults board'))
      (λ text. B.tells_text → B.printed board' ≡ B.printed board ++ text)
      (λ text. B.tells_text → Begins (B.printed board) (B.printed board') text) ended

  -- a command has only looked at the store if a cut from its opening sync on leaves the image as it was, and, unless
  -- the board failed, the image is as it was and nothing is in flight
  pub record LeavesImageSettled (old new : D) (ended : Ended) : Type 0 where
    pub leaves : LeavesImage B (ended ≡ BoardFault) old new
    pub same : ended ≢ BoardFault → B.image new ≡ B.image old
    pub settled : ended ≢ BoardFault → IsAtRest B new

  -- a command keeps the store if nothing was written, no byte has changed, unless the board failed, and the command has
  -- only looked at the store, if the image is told
  pub record LeavesStoreUnwritten (old new : D) (ended : Ended) : Type 0 where
    pub bytes : LeavesUnwritten B old new
    pub same : ended ≢ BoardFault → B.image new ≡ B.image old
    pub looks : B.tells_image → LeavesImageSettled old new ended

  -- a command ended with its cause: the board's count of faults rose if the board failed, and else is as it was
  pub record HasCauseOn (old new : D) (ended : Ended) : Type 0 where
    pub count : ended ≢ BoardFault → B.faults new ≡ B.faults old
    pub failed : ended ≡ BoardFault → Rose (B.faults old) (B.faults new)

-- an end is a refusal if its status is none of 0, 3 and 11, with which a drive or its judgement ends
pub record IsRefusal (why : Ended) : Type 0 where
  pub not_0 : status_of why ≢ 0
  pub not_3 : status_of why ≢ 3
  pub not_11 : status_of why ≢ 11
