-- What parts of a command do to the files that they read, one after the other.
use Rattle.std.{specs.Prelude.{◌⊎◌}, proofs.Common.{sym, ⊎_elim}}
use Rattle.std.proofs.Common.{[], ℕ, ◌<◌, ◌∙◌, ◌≡◌, ◌≢◌, ◌≤◌, Err, List, Ok, Result, ap, arith, inl, inr, refl, subst}
use Rattle.outside.{specs.declared.files.Files.{Ghosts as FileGhosts}, proofs.Laws.{rose_behind}}
use Rattle.call_ends.specs.Common.{BadTariff, BoardFault, Ended, LeavesOthers, NoMemory, ReadFault, Refusal, Rose}
use Rattle.call_ends.specs.{Common.{TextFault}, Ending.{ended_for}, Reads.{FailsOr, Follows, GoesTo, ReadsWord}}
use Rattle.call_ends.{specs.Course.{Command}, proofs.OneAnswer.{no_fault, same_fault}}
use Rattle.call_ends.specs.declared.tariff.TextFault.TheVariants as texts

-- what fails, or refuses for one reason, fails or refuses for another
pub fails_as : {one other : Ended → Type 0} {why : Ended} → (one why → other why) → FailsOr one why → FailsOr other why
fails_as {one = one} {why = why} more h = record {
  how = ⊎_elim (λ (e : why ≡ ReadFault). inl e)
      (λ (rest : (why ≡ NoMemory) ⊎ one why). inr (⊎_elim (λ (e : why ≡ NoMemory). inl e) (λ (r : one why). inr (more
      r))
      rest)) h.how;
}

-- so a text fails, or is refused
pub fails-text : {refuses : Ended → Type 0} (fault : TextFault)
    → ((why : Refusal) → fault ≡ texts.Refused why → refuses (BadTariff why)) → FailsOr refuses (ended_for fault)
fails-text texts.ReadFault refused = record { how = inl refl }
fails-text (texts.Refused why) refused = record { how = inr (inr (refused why refl)) }
fails-text texts.NoMemory refused = record { how = inr (inl refl) }

-- what a word was read for, by faults of its own
module _ {E T X : Type 0} {F : FileGhosts E} {word : ℕ} {files files' : E} {result : Result T X} {read : X}
    (rose : result ≡ Err read → Rose (F.faults files word) (F.faults files' word))
    (others : LeavesOthers F.rest word files files')
    (counts : result ≢ Err read → (other : ℕ) → F.faults files' other ≡ F.faults files other) where
  pub reads-ok : {x : T} → (F.tells → F.rest files' word ≡ []) → result ≡ Ok x
      → ReadsWord F {T = T} word files files' (Ok x)
  reads-ok {x = x} ended is = record {
    ended = ended;
    read_fault = λ e. absurd (no_fault _ _ _ refl e);
    others = others;
    counts = λ not. counts (no_fault result x read is);
    not_board = no_fault _ _ _ refl;
  }

  pub reads-fault : {fault : X} {why : Ended} → result ≡ Err fault → (why ≡ ReadFault → fault ≡ read)
      → (fault ≡ read → why ≡ ReadFault) → why ≢ BoardFault → ReadsWord F {T = T} word files files' (Err why)
  reads-fault is there back not_board = record {
    ended = λ tells. tt;
    read_fault = λ e. rose (is ∙ ap Err (there (same_fault _ _ _ refl e)));
    others = others;
    counts = λ not. counts (λ f. not (ap Err (back (same_fault _ _ _ is f))));
    not_board = λ e. not_board (same_fault _ _ _ refl e);
  }

  pub reads-bad : {fault : X} (end : X → Ended) → result ≡ Err fault → (end fault ≡ ReadFault → fault ≡ read)
      → end read ≡ ReadFault → end fault ≢ BoardFault → ReadsWord F {T = T} word files files' (Err (end fault))
  reads-bad end is only of_read not_board = reads-fault is only (λ f. ap end f ∙ of_read) not_board

module _ {E : Type 0} {F : FileGhosts E} {c : Command} {image : List ℕ} {told : Type 0} where
  -- nothing was read
  pub goes-none : (files : E) → GoesTo F c image told 0 files files
  goes-none files = record {
    others = λ word not. refl;
    later = λ word behind. refl;
    unread = λ t word never. refl;
    counts = λ word. refl;
  }

  module _ {T : Type 0} {turn : ℕ} {files mid files' : E} {result : Result T Ended} (word : ℕ) (taken : List ℕ)
      (so_far : GoesTo F c image told turn files mid) (read : ReadsWord F word mid files' result)
      (order : turn ≤ c.turn word) (reads : c.reads word)
      (comes : told → c.comes_to (F.rest files) image word taken) where
    others : (other : ℕ) → ¬ c.reads other → F.rest files' other ≡ F.rest files other
    others other not = read.others other (λ e. not (subst c.reads (sym e) reads)) ∙ so_far.others other not

    later : (other : ℕ) → c.turn word < c.turn other → F.rest files' other ≡ F.rest files other
    later other behind = read.others other (λ e. absurd (omega (arith, behind, ap c.turn e)))
        ∙ so_far.later other (omega (arith, order, behind))

    unread : told → (other : ℕ) → ((taken : List ℕ) → ¬ c.comes_to (F.rest files) image other taken)
        → F.rest files' other ≡ F.rest files other
    unread t other never =
        read.others other
        (λ e. never taken (subst (λ (w : ℕ). c.comes_to (F.rest files) image w taken) (sym e) (comes t)))
        ∙ so_far.unread t other never

    -- a word was read behind others
    pub goes-on : result ≢ Err ReadFault → GoesTo F c image told (c.turn word) files files'
    goes-on good = record {
      others = others;
      later = later;
      unread = unread;
      counts = λ other. read.counts good other ∙ so_far.counts other;
    }

    -- or wasn't, and the command ended
    pub stops-with : {why : Ended} → result ≡ Err why → Follows F c image told files files' why
    stops-with is = record {
      read_fault = λ e. record {
        word = word;
        reads = reads;
        rose = rose_behind _ _ _ (so_far.counts word) (read.read_fault (is ∙ ap Err e));
        behind = later;
      };
      others = others;
      unread = unread;
      counts = λ not other. read.counts (λ f. not (same_fault _ _ _ is f)) other ∙ so_far.counts other;
    }

  -- no read failed
  pub goes-all : {turn : ℕ} {files files' : E} {why : Ended} → GoesTo F c image told turn files files'
      → why ≢ ReadFault → Follows F c image told files files' why
  goes-all so_far not = record {
    read_fault = λ e. absurd (not e);
    others = so_far.others;
    unread = so_far.unread;
    counts = λ good. so_far.counts;
  }
