-- Calls that read alone.
use Rattle.std.proofs.Common.{ℕ, ◌∙◌, ◌≡◌, List, ap, arith, get_or, inl, inr, length, refl, ⊎_elim}
use Rattle.outside.{specs.{Disk.{Elapses}, Runs.{LeavesNow}}, proofs.Laws.{leaves_none, leaves_then, leaves_wider}}
use Rattle.log_commands.specs.Common.{Ghosts, KeepsStore, MayLeave, ReadsOnly, SameBut}

module _ {D L : Type 0} {N : ℕ} (B : Ghosts D N L) where
  -- what a cut may leave of a board whose image is the same but for what was in flight, and with nothing more in flight
  earlier : (old new : D) (i x : List ℕ) → SameBut (B.in_flight old) (B.image old) (B.image new)
      → ((place : ℕ) → B.in_flight new place → B.in_flight old place) → B.printed new ≡ B.printed old
      → MayLeave (B.image new) (B.in_flight new) (B.printed new) i x
      → MayLeave (B.image old) (B.in_flight old) (B.printed old) i x
  earlier old new i x same flight text left = record {
    bytes = record {
      size = left.bytes.size ∙ same.size;
      rest = λ place none. left.bytes.rest place (λ flies. none (flight place flies)) ∙ same.rest place none;
    };
    small = left.small;
    text = left.text ∙ text;
  }

  same_but : (old new : D) → B.image new ≡ B.image old → SameBut (B.in_flight old) (B.image old) (B.image new)
  same_but old new same =
      record { size = ap length same; rest = λ place none. ap (λ (image : List ℕ). get_or image place 0) same }

  -- a sync
  pub reads_sync : (old new : D) → LeavesNow B old → SameBut (B.in_flight old) (B.image old) (B.image new)
      → ((place : ℕ) → B.in_flight new place → B.in_flight old place) → B.printed new ≡ B.printed old
      → Elapses (B.moment old) (B.moment new) (B.left_since old) (B.left_since new)
      (MayLeave (B.image new) (B.in_flight new) (B.printed new)) → ReadsOnly B old new
  reads_sync old new only_now same flight text time = record {
    leaves = record {
      later = time.later;
      each = λ i x left. ⊎_elim (only_now i x) (earlier old new i x same flight text)
          (time.nothing_else (B.moment old) i x (omega arith) left);
      before = λ start i x le left. ⊎_elim (λ was. inl was) (λ is. inr (earlier old new i x same flight text is))
          (time.nothing_else start i x le left);
    };
    image = same;
    flight = flight;
    text = text;
  }

  -- a read
  pub reads_once : (old new : D) → LeavesNow B old → B.image new ≡ B.image old
      → ((place : ℕ) → B.in_flight new place → B.in_flight old place) → B.printed new ≡ B.printed old
      → Elapses (B.moment old) (B.moment new) (B.left_since old) (B.left_since new)
      (MayLeave (B.image new) (B.in_flight new) (B.printed new)) → ReadsOnly B old new
  reads_once old new only_now same = reads_sync old new only_now (same_but old new same)

  -- no call
  pub reads_none : (board : D) → LeavesNow B board → ReadsOnly B board board
  reads_none board only_now = record {
    leaves = leaves_none B (MayLeave (B.image board) (B.in_flight board) (B.printed board)) board only_now;
    image = record { size = refl; rest = λ place none. refl };
    flight = λ place flies. flies;
    text = refl;
  }

  -- reads one after another
  pub reads_then : (old mid new : D) → ReadsOnly B old mid → B.image mid ≡ B.image old → ReadsOnly B mid new
      → ReadsOnly B old new
  reads_then old mid new first same next = record {
    leaves = leaves_then B (MayLeave (B.image old) (B.in_flight old) (B.printed old)) old mid new first.leaves
        (leaves_wider B (MayLeave (B.image mid) (B.in_flight mid) (B.printed mid))
        (MayLeave (B.image old) (B.in_flight old) (B.printed old)) mid new
        (λ i x left. earlier old mid i x (same_but old mid same) first.flight first.text left) next.leaves);
    image = record {
      size = next.image.size ∙ ap length same;
      rest = λ place none. next.image.rest place (λ flies. none (first.flight place flies))
          ∙ ap (λ (image : List ℕ). get_or image place 0) same;
    };
    flight = λ place flies. first.flight place (next.flight place flies);
    text = next.text ∙ first.text;
  }

  -- reads that gave the image as it was
  pub reads_keep : (old new : D) → B.image new ≡ B.image old → ReadsOnly B old new → KeepsStore B old new
  reads_keep old new same reads = record {
    same = same;
    flight = reads.flight;
    later = reads.leaves.later;
    before = λ start i x le left. ⊎_elim (λ was. inl was)
        (λ is. inr (record { bytes = is.bytes; small = is.small })) (reads.leaves.before start i x le left);
  }
