-- What a call leaves from its opening sync on.
use Rattle.std.proofs.Common.{ℕ, ◌∙◌, ◌≡◌, List, ap, arith, get_or, inl, inr, length, ⊎_elim}
use Rattle.{std.proofs.lemmas.List.{ext_get_or}, outside.proofs.Laws.{leaves_then, leaves_wider}}
use Rattle.outside.specs.{Disk.{Elapses}, Runs.{LeavesNow}}
use Rattle.slot_store.specs.Common.{Ghosts, IsAtRest, LeavesOnly, MayLeave, SameBut}
use Rattle.slot_store.specs.Syncs.{IsAsHeld, IsSynced, LeavesFromSync, ReadsOnly, SyncsFirst}

-- images that are the same but at the places in flight are the same if there are none
same_image : (image left : List ℕ) (in_flight : ℕ → Type 0) → ((place : ℕ) → ¬ in_flight place)
    → SameBut in_flight image left → left ≡ image
same_image image left in_flight none same = ext_get_or 0 left image same.size (λ place lt. same.rest place (none place))

module _ {D L : Type 0} {N : ℕ} (B : Ghosts D N L) where
  as_held : (old new : D) → IsAtRest B old → LeavesOnly B old new
      (MayLeave (B.image old) (B.in_flight old) (B.printed old)) → LeavesOnly B old new (IsAsHeld B old)
  as_held old new settled run =
      leaves_wider B (MayLeave (B.image old) (B.in_flight old) (B.printed old)) (IsAsHeld B old) old new
      (λ i x left.
      record { image = same_image (B.image old) i (B.in_flight old) settled left.bytes; text = left.text }) run

  pub settled_already : (kind : List ℕ → List ℕ → Type 0) (fails : Type 0) (old new : D) → IsAtRest B old
      → kind (B.image old) (B.printed old)
      → LeavesFromSync B fails old new kind → LeavesOnly B old new kind
  settled_already kind fails old new settled holds (inl failed) = held old new settled holds failed.1.leaves
    where
      held : (old new : D) → IsAtRest B old → kind (B.image old) (B.printed old)
          → LeavesOnly B old new (MayLeave (B.image old) (B.in_flight old) (B.printed old)) → LeavesOnly B old new kind
      held old new settled holds run =
          leaves_wider B (IsAsHeld B old) kind old new (λ i x is. rw (is.image, is.text) holds)
          (as_held old new settled run)
  settled_already kind fails old new settled holds (inr (synced, is, run)) =
      leaves_then B kind old synced new
      (leaves_wider B (IsAsHeld B old) kind old synced (λ i x held. rw (held.image, held.text) holds)
      (as_held old synced settled is.reads.leaves)) run

  -- what a call leaves is of a wider kind too
  pub from_sync_as : (kind wider : List ℕ → List ℕ → Type 0) (fails fails' : Type 0) (old new : D) → (fails → fails')
      → ((left_image left_text : List ℕ) → kind left_image left_text → wider left_image left_text)
      → LeavesFromSync B fails old new kind → LeavesFromSync B fails' old new wider
  from_sync_as kind wider fails fails' old new more is (inl failed) = inl (more failed.0, failed.1)
  from_sync_as kind wider fails fails' old new more is (inr (synced, at, run)) =
      inr (synced, at, leaves_wider B kind wider synced new is run)

  pub goes_on : (kind wider : List ℕ → List ℕ → Type 0) (fails fails' : Type 0) (old between new : D) → ¬ fails
      → ((left_image left_text : List ℕ) → kind left_image left_text → wider left_image left_text)
      → LeavesFromSync B fails old between kind
      → LeavesOnly B between new wider → LeavesFromSync B fails' old new wider
  goes_on kind wider fails fails' old between new not is (inl failed) next = absurd (not failed.0)
  goes_on kind wider fails fails' old between new not is (inr (synced, at, run)) next =
      inr (synced, at, leaves_then B wider synced between new (leaves_wider B kind wider synced between is run) next)

  -- what follows the sync leaves what was held before it
  pub held_on : (old synced new : D) → IsSynced B old synced → LeavesOnly B synced new
      (MayLeave (B.image synced) (B.in_flight synced) (B.printed synced)) → LeavesOnly B synced new (IsAsHeld B old)
  held_on old synced new is run =
      leaves_wider B (IsAsHeld B synced) (IsAsHeld B old) synced new (λ i x held.
      record { image = held.image ∙ is.same; text = held.text ∙ is.reads.text }) (as_held synced new is.settled run)

  -- what a board may leave after a call that only reads, seen from before it
  left_before : (old new : D) → SameBut (B.in_flight old) (B.image old) (B.image new)
      → ((place : ℕ) → B.in_flight new place → B.in_flight old place) → B.printed new ≡ B.printed old
      → (i x : List ℕ) → MayLeave (B.image new) (B.in_flight new) (B.printed new) i x
      → MayLeave (B.image old) (B.in_flight old) (B.printed old) i x
  left_before old new image flight text i x now = record {
    bytes = record {
      size = now.bytes.size ∙ image.size;
      rest = λ place grounded.
          now.bytes.rest place (λ flies. grounded (flight place flies)) ∙ image.rest place grounded;
    };
    small = now.small;
    text = now.text ∙ text;
  }

  -- a sync, as a run of its own
  pub reads_sync : (old new : D) → LeavesNow B old → SameBut (B.in_flight old) (B.image old) (B.image new)
      → ((place : ℕ) → B.in_flight new place → B.in_flight old place) → B.printed new ≡ B.printed old
      → Elapses (B.moment old) (B.moment new) (B.left_since old) (B.left_since new)
      (MayLeave (B.image new) (B.in_flight new) (B.printed new))
      → ReadsOnly B old new
  reads_sync old new only_now image flight text time = record {
    leaves = record {
      later = time.later;
      each = λ i x left. ⊎_elim (only_now i x) (left_before old new image flight text i x)
          (time.nothing_else (B.moment old) i x (omega arith) left);
      before = λ start i x le left. ⊎_elim (λ was. inl was)
          (λ is. inr (left_before old new image flight text i x is)) (time.nothing_else start i x le left);
    };
    image = image;
    flight = flight;
    text = text;
  }

  -- a read, as a run of its own
  pub reads_one : (old new : D) → LeavesNow B old → B.image new ≡ B.image old
      → ((place : ℕ) → B.in_flight new place → B.in_flight old place) → B.printed new ≡ B.printed old
      → Elapses (B.moment old) (B.moment new) (B.left_since old) (B.left_since new)
      (MayLeave (B.image new) (B.in_flight new) (B.printed new))
      → ReadsOnly B old new
  reads_one old new only_now same flight text time =
      reads_sync old new only_now (record {
        size = ap length same;
        rest = λ place none. ap (λ (bytes : List ℕ). get_or bytes place 0) same;
      }) flight text time

  -- two runs that only read, one after the other
  pub reads_then : (old between new : D) → ReadsOnly B old between → ReadsOnly B between new → ReadsOnly B old new
  reads_then old between new first second = record {
    leaves =
        leaves_then B (MayLeave (B.image old) (B.in_flight old) (B.printed old)) old between new first.leaves
        (leaves_wider B (MayLeave (B.image between) (B.in_flight between) (B.printed between))
        (MayLeave (B.image old) (B.in_flight old) (B.printed old)) between new
        (left_before old between first.image first.flight first.text) second.leaves);
    image = record {
      size = second.image.size ∙ first.image.size;
      rest = λ place none.
          second.image.rest place (λ flies. none (first.flight place flies)) ∙ first.image.rest place none;
    };
    flight = λ place flies. first.flight place (second.flight place flies);
    text = second.text ∙ first.text;
  }

  -- a call that syncs first, if more may be known of how it fails
  pub syncs_as : (fails fails' : Type 0) (old new : D) → (fails → fails')
      → SyncsFirst B fails old new → SyncsFirst B fails' old new
  syncs_as fails fails' old new there syncs = record {
    leaves = λ told.
        from_sync_as (IsAsHeld B old) (IsAsHeld B old) fails fails' old new there (λ i x is. is) (syncs.leaves told);
    same = λ good. syncs.same (λ failed. good (there failed));
    settled = λ told good. syncs.settled told (λ failed. good (there failed));
  }
