-- For proofs: what a part of a command does to the files that it reads. Plan says which words a command reads.
use Rattle.std.specs.Prelude.{[], ℕ, ◌<◌, ◌≡◌, ◌≢◌, ◌⊎◌, Err, List, OnOk, Result}
use Rattle.outside.specs.declared.files.Files.{Ghosts as FileGhosts}
use Rattle.call_ends.specs.Call.{LeavesUnread, StopsReading}
use Rattle.call_ends.specs.{Common.{BoardFault, Ended, LeavesOthers, NoMemory, ReadFault, Rose}, Course.{Command}}

-- a part of a command gives nothing: a read failed, memory ran out, or it `refuses`
pub record FailsOr (refuses : Ended → Type 0) (why : Ended) : Type 0 where
  pub how : (why ≡ ReadFault) ⊎ ((why ≡ NoMemory) ⊎ refuses why)

module _ {E : Type 0} (F : FileGhosts E) where
  -- a call reads one word: to the end of its file if it gives a result, and no other file; if a read failed, the count
  -- of that file's faults rose, and else no count; and no board failed
  pub record ReadsWord {T : Type 0} (word : ℕ) (files files' : E) (result : Result T Ended) : Type 0 where
    pub ended : F.tells → OnOk result (F.rest files' word ≡ [])
    pub read_fault : result ≡ Err ReadFault → Rose (F.faults files word) (F.faults files' word)
    pub others : LeavesOthers F.rest word files files'
    pub counts : result ≢ Err ReadFault → (other : ℕ) → F.faults files' other ≡ F.faults files other
    pub not_board : result ≢ Err BoardFault

-- `told` is what has to be told so that it is known which words the command comes to
module _ {E : Type 0} (F : FileGhosts E) (c : Command) (image : List ℕ) (told : Type 0) where
  -- a command went on to a turn if it read only words that it comes to, none of a later turn, and no read failed
  pub record GoesTo (turn : ℕ) (files files' : E) : Type 0 where
    pub others : (word : ℕ) → ¬ c.reads word → F.rest files' word ≡ F.rest files word
    pub later : (word : ℕ) → turn < c.turn word → F.rest files' word ≡ F.rest files word
    pub unread : told → LeavesUnread c (F.rest files) (F.rest files') image
    pub counts : (word : ℕ) → F.faults files' word ≡ F.faults files word

  -- a command that ended so read only words that it comes to, in their turns, up to the first of which a read failed
  pub record Follows (files files' : E) (ended : Ended) : Type 0 where
    pub read_fault : ended ≡ ReadFault → StopsReading F c files files'
    pub others : (word : ℕ) → ¬ c.reads word → F.rest files' word ≡ F.rest files word
    pub unread : told → LeavesUnread c (F.rest files) (F.rest files') image
    pub counts : ended ≢ ReadFault → (word : ℕ) → F.faults files' word ≡ F.faults files word
