-- Calls that write nothing, one after another.
use Rattle.std.proofs.Common.{ℕ, ◌∙◌, ◌≡◌, List, ap, arith, get_or, inl, inr, length, ⊎_elim}
use Rattle.outside.{specs.{Disk.{MayLeave, SameBut}, Runs.{MayHold}}, proofs.Laws.{leaves_then, leaves_wider}}
use Rattle.{slot_store.specs.Syncs.{ReadsOnly}, call_ends.specs.Common.{Ghosts, KeepsStore}}
use Rattle.call_ends.specs.Unwritten.{LeavesUnwritten}

-- the same bytes are the same but anywhere
same_but : (places : ℕ → Type 0) (old new : List ℕ) → new ≡ old → SameBut places old new
same_but places old new e =
    record { size = ap length e; rest = λ place none. ap (λ (bytes : List ℕ). get_or bytes place 0) e }

-- a change and then a change, of which the later has no more places
but_then : (flown flying : ℕ → Type 0) (old mid new : List ℕ) → ((place : ℕ) → flying place → flown place)
    → SameBut flown old mid → SameBut flying mid new → SameBut flown old new
but_then flown flying old mid new fewer first next = record {
  size = next.size ∙ first.size;
  rest = λ place none. next.rest place (λ flies. none (fewer place flies)) ∙ first.rest place none;
}

module _ {D L : Type 0} {N : ℕ} (B : Ghosts D N L) where
  -- one scan after another that went well
  pub reads-then : (old mid new : D) → ReadsOnly B old mid → B.image mid ≡ B.image old → ReadsOnly B mid new
      → ReadsOnly B old new
  reads-then old mid new first same next = record {
    leaves = leaves_then B (MayLeave (B.image old) (B.in_flight old) (B.printed old)) old mid new first.leaves
        (leaves_wider B (MayLeave (B.image mid) (B.in_flight mid) (B.printed mid))
        (MayLeave (B.image old) (B.in_flight old) (B.printed old)) mid new
        (λ i x h. record {
          bytes = but_then (B.in_flight old) (B.in_flight mid) (B.image old)
              (B.image mid) i first.flight first.image h.bytes;
          small = h.small;
          text = h.text ∙ first.text;
        }) next.leaves);
    image = but_then (B.in_flight old) (B.in_flight mid) (B.image old) (B.image mid)
        (B.image new) first.flight first.image next.image;
    flight = λ place flies. first.flight place (next.flight place flies);
    text = next.text ∙ first.text;
  }

  -- a scan writes nothing
  pub bytes-read : (old new : D) → ReadsOnly B old new → LeavesUnwritten B old new
  bytes-read old new reads = record {
    image = reads.image;
    flight = reads.flight;
    later = reads.leaves.later;
    before = λ start i x le left. ⊎_elim (λ was. inl was)
        (λ (h : MayLeave (B.image old) (B.in_flight old) (B.printed old) i x).
        inr (record { bytes = h.bytes; small = h.small })) (reads.leaves.before start i x le left);
  }

  -- what keeps the store writes nothing
  pub bytes-kept : (old new : D) → KeepsStore B old new → LeavesUnwritten B old new
  bytes-kept old new kept = record {
    image = same_but (B.in_flight old) (B.image old) (B.image new) kept.same;
    flight = kept.flight;
    later = kept.later;
    before = kept.before;
  }

  -- one after the other
  pub bytes-then : (old mid new : D) → LeavesUnwritten B old mid → LeavesUnwritten B mid new → LeavesUnwritten B old new
  bytes-then old mid new first next = record {
    image = but_then (B.in_flight old) (B.in_flight mid) (B.image old) (B.image mid)
        (B.image new) first.flight first.image next.image;
    flight = λ place flies. first.flight place (next.flight place flies);
    later = omega (arith, first.later, next.later);
    before = λ start i x le left. ⊎_elim (first.before start i x le)
        (λ (h : MayHold (B.image mid) (B.in_flight mid) i). inr (record {
          bytes = but_then (B.in_flight old) (B.in_flight mid) (B.image old)
              (B.image mid) i first.flight first.image h.bytes;
          small = h.small;
        }))
        (next.before start i x (omega (arith, le, first.later)) left);
  }
