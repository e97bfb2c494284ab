-- For proofs: how a command was carried out, but for its last line. Call and Course say what a call is.
use Rattle.std.specs.Prelude.{[], ℕ, ◌+◌, ◌≡◌, ◌≢◌, ◌≤◌, List}
use Rattle.outside.specs.{Disk.{store_size}, Runs.{IsAtRest}, declared.files.Files.{Ghosts as FileGhosts}}
use Rattle.call_ends.specs.{Call.{LeavesUnread, StopsReading}, LastLine.{status_of}, Unwritten.{LeavesUnwritten}}
use Rattle.call_ends.specs.Common.{BoardFault, Ended, Ghosts, KeepsStore, ReadFault, Rose}
use Rattle.call_ends.specs.{Course.{Command, IsReadOnlyCommand}, Ending.{EndsOnDevices, LeavesImageSettled}}

module _ {E D L : Type 0} {N : ℕ} (F : FileGhosts E) (B : Ghosts D N L) where
  -- a command was carried out, but for its last line, if all holds that its record says of a call, and each fault of
  -- the outside has its cause. If the board fails, a command that writes at all may have written. A command that opens
  -- the store leaves nothing in flight, unless the board failed.
  pub record Carries (c : Command) (files files' : E) (old new : D) (before now : ℕ) (ended : Ended) : Type 0 where
    pub ends : c.told F.tells B.tells_image → EndsOnDevices F B c files files' old new ended
    pub steps : (later : ℕ) → later ≤ now + 1
        → c.steps F.tells B.tells_image (F.rest files) (F.rest files') (B.image old) before later
    pub read_fault : ended ≡ ReadFault → StopsReading F c files files'
    pub board_fault : ended ≡ BoardFault → Rose (B.faults old) (B.faults new)
    pub others : (word : ℕ) → ¬ c.reads word → F.rest files' word ≡ F.rest files word
    pub unread : c.told F.tells B.tells_image → LeavesUnread c (F.rest files) (F.rest files') (B.image old)
    pub count : ended ≢ BoardFault → B.faults new ≡ B.faults old
    pub counts : ended ≢ ReadFault → ended ≢ BoardFault → (word : ℕ) → F.faults files' word ≡ F.faults files word
    pub kept : ¬ c.opens → KeepsStore B old new
    pub unwritten : ¬ c.writes (status_of ended) → LeavesUnwritten B old new
    pub same : ¬ c.writes (status_of ended) → ended ≢ BoardFault → B.image new ≡ B.image old
    pub fails : (status : ℕ) → c.writes status → c.writes 8
    pub at_rest : c.told F.tells B.tells_image → B.tells_image → c.opens → ended ≢ BoardFault → IsAtRest B new
    pub looks : IsReadOnlyCommand c → B.tells_image → LeavesImageSettled B old new ended

-- a command without files may hold any contents, and no read of it fails
abbrev pub no_files : (contents : ℕ → List ℕ) → FileGhosts (Unit {0})
no_files contents = record { tells = Unit {0}; rest = λ files. contents; faults = λ files word. 0 }

-- a command without a board may be called over any image, prints nothing, and no board of it fails
abbrev pub no_board : (image : List ℕ) → Ghosts (Unit {0}) store_size (Unit {0})
no_board image = record {
  tells_image = Unit {0};
  tells_text = Unit {0};
  image = λ board. image;
  in_flight = λ board place. ⊥;
  printed = λ board. [];
  moment = λ board. 0;
  left_since = λ board start left_image left_text. ⊥;
  faults = λ board. 0;
}
