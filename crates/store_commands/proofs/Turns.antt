-- What is left of the files of two words that are read one behind the other.
use Rattle.std.proofs.Common.{ℕ, ◌∙◌, ◌≡◌, inl, inr, subst}
use Rattle.{outside.specs.declared.files.Files.{Ghosts as FileGhosts}, store_commands.specs.Common.{LeavesOthers, Rose}}
use Rattle.store_commands.specs.ReadInTurn.{HasFailed, ReadsInTurn}

module _ {E : Type 0} (F : FileGhosts E) where
  -- what a call leaves of the counts if no read failed
  abbrev pub KeepsCounts : (files files' : E) → Type 0
  KeepsCounts files files' = (other : ℕ) → F.faults files' other ≡ F.faults files other

module _ {E : Type 0} (F : FileGhosts E) (first second : ℕ) (comes fails : Type 0) (files files' : E) where
  -- the second word isn't come to
  pub first_alone : (failed : Type 0) → (fails → failed) → (failed → fails)
      → (failed → HasFailed F files files' first) → LeavesOthers F.rest first files files'
      → (¬ failed → KeepsCounts F files files') → ReadsInTurn F first second comes fails files files'
  first_alone failed there back rose others counts = record {
    read_fault = λ f. inl (rose (there f), others);
    others = λ other not_first not_second. others other not_first;
    unread = λ tells other not_first never. others other not_first;
    counts = λ good. counts (λ f. good (back f));
  }

  -- the second word is read behind the first
  pub first_then : (mid : E) (failed : Type 0) → (F.tells → comes) → (fails → failed) → (failed → fails)
      → LeavesOthers F.rest first files mid → KeepsCounts F files mid
      → (failed → HasFailed F mid files' second) → LeavesOthers F.rest second mid files'
      → (¬ failed → KeepsCounts F mid files') → ReadsInTurn F first second comes fails files files'
  first_then mid failed came there back others counts rose others' counts' = record {
    read_fault = λ f. inr (subst (λ (n : ℕ). Rose n (F.faults files' second)) (counts second) (rose (there f)));
    others = λ other not_first not_second. others' other not_second ∙ others other not_first;
    unread = λ tells other not_first never. others' other (λ e. never (e, came tells)) ∙ others other not_first;
    counts = λ good other. counts' (λ f. good (back f)) other ∙ counts other;
  }
