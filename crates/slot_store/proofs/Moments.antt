-- What calls leave at each moment.
use Rattle.std.proofs.Common.{ℕ, ◌+◌, ◌∙◌, ◌≡◌, ◌≤◌, List, arith, inl, inr, refl, subst, ⊎_elim}
use Rattle.outside.{specs.{Disk.{Elapses}, Runs.{LeavesNow}}, proofs.Laws.{leaves_none, leaves_then, leaves_wider}}
use Rattle.slot_store.specs.Common.{Ghosts, IsWithin, LeavesOnly, MayLeave, Pair, SameBut}
use Rattle.slot_store.specs.{Stages.{WritesOfSpare, spare_at}, Writes.{LeavesThroughout, OrWithin, WritesIn}}

-- what lies in a part lies in the whole
pub in_whole : (in_flight : ℕ → Type 0) (part count start size : ℕ) (old new : List ℕ) → start ≤ part → part + count
    ≤ start + size → SameBut (OrWithin in_flight part count) old new → SameBut (OrWithin in_flight start size) old new
in_whole in_flight part count start size old new low high same = record {
  size = same.size;
  rest = λ place none. same.rest place (⊎_elim (λ flying. none (inl flying))
      (λ within. none (inr (record { low = omega (arith, within.low); high = omega (arith, within.high) }))));
}

module _ {D L : Type 0} {N : ℕ} (B : Ghosts D N L) (start count : ℕ) where
  -- a write of a part lies in it
  pub write_beside : (old new : D) → SameBut (IsWithin start count) (B.image old) (B.image new)
      → ((place : ℕ) → B.in_flight new place → OrWithin (B.in_flight old) start count place)
      → B.printed new ≡ B.printed old → WritesIn B start count old new
  write_beside old new image flight text = record {
    rest = record { size = image.size; rest = λ place none. image.rest place (λ within. none (inr within)) };
    flight = flight;
    text = text;
  }

  -- no call writes nothing
  pub writes_none : (board : D) → WritesIn B start count board board
  writes_none board = record {
    rest = record { size = refl; rest = λ place none. refl };
    flight = λ place flies. inl flies;
    text = refl;
  }

  -- writes of the same part
  pub writes_at : (part size : ℕ) (old new : D) → part ≡ start → size ≡ count → WritesIn B part size old new
      → WritesIn B start count old new
  writes_at part size old new place long writes =
      subst (λ (p : ℕ). WritesIn B p count old new) place (subst (λ (n : ℕ). WritesIn B part n old new) long writes)

  -- what a board may leave after writes, seen from their start
  left_beside : (old new : D) → WritesIn B start count old new → (left text : List ℕ)
      → MayLeave (B.image new) (B.in_flight new) (B.printed new) left text
      → MayLeave (B.image old) (OrWithin (B.in_flight old) start count) (B.printed old) left text
  left_beside old new writes left text now = record {
    bytes = record {
      size = now.bytes.size ∙ writes.rest.size;
      rest =
          λ place none. now.bytes.rest place (λ flies. none (writes.flight place flies)) ∙ writes.rest.rest place none;
    };
    small = now.small;
    text = now.text ∙ writes.text;
  }

  -- a call that writes in a part
  pub call_leaves : (old new : D) → LeavesNow B old → WritesIn B start count old new
      → Elapses (B.moment old) (B.moment new) (B.left_since old) (B.left_since new)
      (MayLeave (B.image new) (B.in_flight new) (B.printed new))
      → LeavesOnly B old new (MayLeave (B.image old) (OrWithin (B.in_flight old) start count) (B.printed old))
  call_leaves old new only_now writes time = record {
    later = time.later;
    each = λ left text was. ⊎_elim
        (λ before. let now = only_now left text before in record {
          bytes =
              record { size = now.bytes.size; rest = λ place none. now.bytes.rest place (λ flies. none (inl flies)) };
          small = now.small;
          text = now.text;
        })
        (left_beside old new writes left text) (time.nothing_else (B.moment old) left text (omega arith) was);
    before = λ start left text le was. ⊎_elim (λ before. inl before)
        (λ now. inr (left_beside old new writes left text now)) (time.nothing_else start left text le was);
  }

module _ {D L : Type 0} {N : ℕ} (B : Ghosts D N L) where
  -- a stage that writes a part of a slot
  pub stage : (old new : D) (place part count start : ℕ) (kind : List ℕ → Type 0)
      → place ≡ part → start ≤ part → part + count ≤ start + 512
      → LeavesOnly B old new (MayLeave (B.image old) (OrWithin (B.in_flight old) place count) (B.printed old))
      → SameBut (OrWithin (B.in_flight old) place count) (B.image old) (B.image new)
      → ((left : List ℕ) → SameBut (OrWithin (B.in_flight old) part count) (B.image old) left → kind left)
      → LeavesThroughout B start 512 kind old new
  stage old new place part count start kind here low high run same is = record {
    leaves = leaves_wider B (MayLeave (B.image old) (OrWithin (B.in_flight old) part count) (B.printed old)) _ old new
        (λ left text leaves. record {
          stands = is left leaves.bytes;
          beside = record {
            bytes = in_whole (B.in_flight old) part count start 512 (B.image old) left low high leaves.bytes;
            small = leaves.small;
            text = leaves.text;
          };
        })
        (subst (λ (p : ℕ). LeavesOnly B old new
        (MayLeave (B.image old) (OrWithin (B.in_flight old) p count) (B.printed old))) here run);
    holds = is (B.image new)
        (subst (λ (p : ℕ). SameBut (OrWithin (B.in_flight old) p count) (B.image old) (B.image new)) here same);
  }

  -- a stage that makes no call
  pub no_call : (board : D) (start count : ℕ) (kind : List ℕ → Type 0)
      → ((left text : List ℕ) → B.left_since board (B.moment board) left text
      → MayLeave (B.image board) (B.in_flight board) (B.printed board) left text)
      → ((left : List ℕ) → SameBut (B.in_flight board) (B.image board) left → kind left)
      → LeavesThroughout B start count kind board board
  no_call board start count kind only_now is = record {
    leaves = leaves_none B _ board (λ left text was. let now = only_now left text was in record {
      stands = is left now.bytes;
      beside = record {
        bytes =
            record { size = now.bytes.size; rest = λ place none. now.bytes.rest place (λ flying. none (inl flying)) };
        small = now.small;
        text = now.text;
      };
    });
    holds = is (B.image board) (record { size = refl; rest = λ place none. refl });
  }

  module _ (start count : ℕ) where
    pub wider : (old new : D) (kind more : List ℕ → Type 0) → ((left : List ℕ) → kind left → more left)
        → LeavesThroughout B start count kind old new → LeavesThroughout B start count more old new
    wider old new kind more is run = record {
      leaves = leaves_wider B _ _ old new
          (λ left text leaves. record { stands = is left leaves.stands; beside = leaves.beside }) run.leaves;
      holds = is (B.image new) run.holds;
    }

    -- the same of a part, seen as of the whole
    pub in_part : (part size : ℕ) (kind : List ℕ → Type 0) (old new : D) → start ≤ part → part + size ≤ start + count
        → LeavesThroughout B part size kind old new → LeavesThroughout B start count kind old new
    in_part part size kind old new low high run = record {
      leaves = leaves_wider B _ _ old new (λ left text leaves. record {
        stands = leaves.stands;
        beside = record {
          bytes = in_whole (B.in_flight old) part size start count (B.image old) left low high leaves.beside.bytes;
          small = leaves.beside.small;
          text = leaves.beside.text;
        };
      }) run.leaves;
      holds = run.holds;
    }

    -- and of a wider kind
    pub in_part_as : (part size : ℕ) (kind more : List ℕ → Type 0) (old new : D) → start ≤ part
        → part + size ≤ start + count
        → ((left : List ℕ) → SameBut (OrWithin (B.in_flight old) part size) (B.image old) left → kind left → more left)
        → WritesIn B part size old new → LeavesThroughout B part size kind old new
        → LeavesThroughout B start count more old new
    in_part_as part size kind more old new low high is writes run = record {
      leaves = leaves_wider B _ _ old new (λ left text leaves. record {
        stands = is left leaves.beside.bytes leaves.stands;
        beside = record {
          bytes = in_whole (B.in_flight old) part size start count (B.image old) left low high leaves.beside.bytes;
          small = leaves.beside.small;
          text = leaves.beside.text;
        };
      }) run.leaves;
      holds = is (B.image new) writes.rest run.holds;
    }

    -- what is left by a run that goes on, seen from its start
    pub run_on : (old between new : D) (kind : List ℕ → Type 0) → WritesIn B start count old between
        → LeavesThroughout B start count kind old between → LeavesThroughout B start count kind between new
        → LeavesThroughout B start count kind old new
    run_on old between new kind writes first second = record {
      leaves =
          leaves_then B _ old between new first.leaves (leaves_wider B _ _ between new (λ left text leaves. record {
            stands = leaves.stands;
            beside = record {
              bytes = record {
                size = leaves.beside.bytes.size ∙ writes.rest.size;
                rest =
                    λ place none. leaves.beside.bytes.rest place (⊎_elim (λ flying. none (writes.flight place flying))
                    (λ within. none (inr within))) ∙ writes.rest.rest place none;
              };
              small = leaves.beside.small;
              text = leaves.beside.text ∙ writes.text;
            };
          }) second.leaves);
      holds = second.holds;
    }

    -- what two runs write
    pub writes_on : (old between new : D) → WritesIn B start count old between → WritesIn B start count between new
        → WritesIn B start count old new
    writes_on old between new first second = record {
      rest = record {
        size = second.rest.size ∙ first.rest.size;
        rest = λ place none. second.rest.rest place (⊎_elim (λ flying. none (first.flight place flying))
            (λ within. none (inr within))) ∙ first.rest.rest place none;
      };
      flight = λ place flying. ⊎_elim (first.flight place) (λ within. inr within) (second.flight place flying);
      text = second.text ∙ first.text;
    }

    -- what is written in a part is written in the whole
    pub writes_in_part : (part size : ℕ) (old new : D) → start ≤ part → part + size ≤ start + count
        → WritesIn B part size old new → WritesIn B start count old new
    writes_in_part part size old new low high writes = record {
      rest = in_whole (B.in_flight old) part size start count (B.image old) (B.image new) low high writes.rest;
      flight = λ place flying. ⊎_elim (λ was. inl was) (λ within. inr
          (record { low = omega (arith, within.low); high = omega (arith, within.high) })) (writes.flight place flying);
      text = writes.text;
    }

module _ {D L : Type 0} {N : ℕ} (B : Ghosts D N L) (pair : Pair) where
  -- no call writes nothing of a slot
  pub writes_nothing : (board : D) (start count : ℕ) → WritesOfSpare B pair start count board board
  writes_nothing board start count =
      record { alone = writes_none B start count board; in_slot = writes_none B (spare_at pair) 512 board }

  -- writes of a part of a slot
  pub writes_of_spare : (old new : D) (start count : ℕ) → spare_at pair ≤ start
      → start + count ≤ spare_at pair + 512 → WritesIn B start count old new
      → WritesOfSpare B pair start count old new
  writes_of_spare old new start count low high writes =
      record { alone = writes; in_slot = writes_in_part B (spare_at pair) 512 start count old new low high writes }
