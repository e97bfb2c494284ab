-- For proofs: what is left of files by a part of a command that reads those of two words, the first before the second.
use Rattle.std.specs.Prelude.{ℕ, ◌≡◌, ◌≢◌, ◌⊎◌}
use Rattle.{outside.specs.declared.files.Files.{Ghosts as FileGhosts}, store_commands.specs.Common.{LeavesOthers, Rose}}

-- a read of a word's file failed if the count of that file's faults rose
abbrev pub HasFailed : {E : Type 0} → FileGhosts E → (files files' : E) → (word : ℕ) → Type 0
HasFailed F files files' word = Rose (F.faults files word) (F.faults files' word)

-- the files of two words were read in turn if no third word was read, and the second only if the call `comes` to it. If
-- a read `failed`, the first word's count of faults rose and no other word was read, or the second word's rose; else no
-- count rose.
pub record ReadsInTurn {E : Type 0} (F : FileGhosts E) (first second : ℕ) (comes failed : Type 0)
    (files files' : E) : Type 0 where
  pub read_fault : failed → (HasFailed F files files' first
      × LeavesOthers F.rest first files files')
      ⊎ HasFailed F files files' second
  pub others : (other : ℕ) → other ≢ first → other ≢ second → F.rest files' other ≡ F.rest files other
  pub unread : F.tells → (other : ℕ) → other ≢ first → ¬ ((other ≡ second) × comes)
      → F.rest files' other ≡ F.rest files other
  pub counts : ¬ failed → (other : ℕ) → F.faults files' other ≡ F.faults files other
