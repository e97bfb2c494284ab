-- For proofs: what a command has made before it prints, and how it ends once it is printed.
use Rattle.std.specs.Prelude.{[], ℕ, ◌&&◌, ◌++◌, ◌+◌, ◌≡◌, ◌≢◌, ◌≤◌, ◌⊎◌, Bool, Err, List, Ok, OnOk, Result, eqb, not}
use Rattle.{std.specs.Prelude.{true}, outside.specs.declared.files.Files.{Ghosts as FileGhosts}}
use Rattle.call_ends.specs.{Answer.{Answer}, Course.{Command}, Reads.{Follows}}
use Rattle.call_ends.specs.Common.{Begins, BoardFault, Ended, Ghosts, HasCause, KeepsStore, NoMemory, Rose}
use Rattle.call_ends.specs.{Ending.{EndsByCourse, HasCauseOn}, LastLine.{line_of, status_of}, declared.made.Made.{Made}}

-- the text of what was made, which is empty if nothing was
abbrev pub text_made : Result Made Ended → List ℕ
text_made (Ok made) = made.text.items
text_made (Err why) = []

-- the end behind what was made, or the one for which nothing was
abbrev pub end_made : Result Made Ended → Ended
end_made (Ok made) = made.ended
end_made (Err why) = why

-- the answer that shows a text has the status and the last line of the end behind it
abbrev pub answer_with : (text : List ℕ) → Ended → Answer
answer_with text ended = record { status = status_of ended; shown = text; line = line_of ended }

-- the test `is_plain` is true of a status that stands for no bad drive, no failed read or board, and no lack of memory
abbrev pub is_plain : (status : ℕ) → Bool
is_plain status = not (eqb status 3) && (not (eqb status 7) && (not (eqb status 8) && not (eqb status 12)))

-- what was made is an answer, or memory ran out
abbrev pub IsMade : Answer → Result Made Ended → Type 0
IsMade answer made =
    (made ≡ Err NoMemory)
    ⊎ ((answer ≡ answer_with (text_made made) (end_made made)) × (is_plain (status_of (end_made made)) ≡ true))

-- a command ended behind a text, or by the board that failed
abbrev pub end_printed : {T E : Type 0} → Result T E → Ended → Ended
end_printed (Ok done) ended = ended
end_printed (Err failed) ended = BoardFault

-- a command comes to an end if it prints a text before its last line
abbrev pub EndsWithText : Command → (contents left : ℕ → List ℕ) → (image : List ℕ) → (ℕ → Type 0) → (text : List ℕ)
    → Ended → Type 0
EndsWithText c contents left image read_failed text ended =
    EndsByCourse c contents left image read_failed ⊥ (λ shown. shown ≡ text) (λ shown. ⊥) ended

-- a command makes a text and an end if it comes to the end with the text, and reads as it is planned
pub record Makes {E : Type 0} (F : FileGhosts E) (c : Command) (image : List ℕ) (files files' : E) (text : List ℕ)
    (ended : Ended) : Type 0 where
  pub comes : F.tells → EndsWithText c (F.rest files) (F.rest files') image
      (λ word. Rose (F.faults files word) (F.faults files' word)) text ended
  pub follows : Follows F c image F.tells files files' ended
  pub not_board : ended ≢ BoardFault

-- a text is printed in at most so many steps, and behind it comes an end, or the board fails
pub record Prints {D L : Type 0} {N : ℕ} (B : Ghosts D N L) (text : List ℕ) (most : ℕ) (end : Ended) (old new : D)
    (before now : ℕ) (ended : Ended) : Type 0 where
  pub ends : ended ≢ BoardFault → ended ≡ end
  pub whole : ended ≢ BoardFault → B.tells_text → B.printed new ≡ B.printed old ++ text
  pub begun : B.tells_text → Begins (B.printed old) (B.printed new) text
  pub cause : HasCauseOn B old new ended
  pub steps : now ≤ before + most
  pub store : KeepsStore B old new

-- a text is printed in at most so many steps, or its print fails behind a beginning of it
pub record PrintsOut {T E D L : Type 0} {N : ℕ} (B : Ghosts D N L) (text : List ℕ) (most : ℕ) (old new : D)
    (before now : ℕ) (result : Result T E) : Type 0 where
  pub whole : B.tells_text → OnOk result (B.printed new ≡ B.printed old ++ text)
  pub begun : B.tells_text → Begins (B.printed old) (B.printed new) text
  pub cause : HasCause (B.faults old) (B.faults new) result
  pub steps : now ≤ before + most
  pub store : KeepsStore B old new
