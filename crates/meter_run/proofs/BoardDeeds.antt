-- One call of the board as a deed: a print, a commit, a scan.
use Rattle.std.specs.{Option.{ForSome}, Prelude.{◌⊎◌, get_or, length}}
use Rattle.std.proofs.Common.{[], ℕ, ◌∷◌, ◌≡◌, ◌≤◌, List, Some, ap, arith, inl, inr, refl, subst, sym, ⊎_elim}
use Rattle.outside.{specs.{Disk.{MayLeave}, Runs.{MayHold}}, proofs.Laws.{begins_not, leaves_kept, leaves_wider}}
use Rattle.slot_store.specs.{Stages.{IsPair}, Syncs.{ReadsOnly}, declared.pair.Pair.{Pair}}
use Rattle.slot_store.{specs.Writes.{LeavesBeside, WritesIn}, proofs.Laws.{settled_stays, whole_leaves, whole_writes}}
use Rattle.{totals_record.specs.Reading.{reads}, meter_store.specs.Stored.{HasEither, LeavesEither, written_at}}
use Rattle.meter_run.specs.Common.{Begins, Durable, Fits, Ghosts, HoldsState, KeepsStore, Known, LeavesNow, LeavesOnly}
use Rattle.meter_run.specs.Common.{MayLeaveAmid, Place, SameBut, Seal, TableParts, state_number_of}
use Rattle.meter_run.specs.{Deeds.{Deed, after_deed, deed_text}, PointLaws.{left_has}}
use Rattle.meter_run.specs.{OnStore.{Agrees, HasBeside, WritesTotals}, Points.{GoesBy, HasFittingState, IsPointOfDeeds}}

-- the pair of totals, whose latest body is at a place
abbrev pair_at : Place → Pair
pair_at place = record { at = 0; latest = Some place }

-- a pair that was settled stays so on a board whose store is kept
pub settled_kept : {D L : Type 0} {N : ℕ} (B : Ghosts D N L) (place : Place) (d : Durable) (a b : D) → KeepsStore B a b
    → HoldsState B place a d → HoldsState B place b d
settled_kept B place d a b kept settled =
    settled_stays reads state_number_of 0 place d (B.image a) (B.image b) (B.in_flight a) (B.in_flight b) settled
    (record {
      size = ap (λ (image : List ℕ). length image) kept.same;
      bytes = λ byte within. ap (λ (image : List ℕ). get_or image byte 0) kept.same;
    }) (λ byte within flies. kept.flight byte flies)

module _ {D L : Type 0} {N : ℕ} (B : Ghosts D N L) where
  pub agrees_kept : (tables : TableParts) (known : Known) (a b : D) → KeepsStore B a b → Agrees B tables known a
      → Agrees B tables known b
  agrees_kept tables known a b kept agrees = record {
    slot = agrees.slot;
    settled = λ told. settled_kept B known.place known.durable a b kept (agrees.settled told);
    fits = agrees.fits;
  }

  -- outside the pair of totals
  pub beside_kept : (a b : D) → LeavesNow B a → KeepsStore B a b → WritesTotals B a b
  beside_kept a b now kept = record {
    rest = record {
      size = ap (λ (image : List ℕ). length image) kept.same;
      rest = λ place none. ap (λ (image : List ℕ). get_or image place 0) kept.same;
    };
    flight = λ place flies. inl (kept.flight place flies);
    leaves =
        leaves_wider B (λ i x. MayHold (B.image a) (B.in_flight a) i) (λ i x. HasBeside B a i) a b (λ i x left. record {
          bytes =
              record { size = left.bytes.size; rest = λ place none. left.bytes.rest place (λ flies. none (inl flies)) };
          small = left.small;
        }) (leaves_kept B a b now kept);
  }

  pub beside_scan : (a b : D) → SameBut (B.in_flight a) (B.image a) (B.image b)
      → ((place : ℕ) → B.in_flight b place → B.in_flight a place)
      → LeavesOnly B a b (MayLeave (B.image a) (B.in_flight a) (B.printed a)) → WritesTotals B a b
  beside_scan a b same fewer run = record {
    rest = record { size = same.size; rest = λ place none. same.rest place (λ flies. none (inl flies)) };
    flight = λ place flies. inl (fewer place flies);
    leaves = leaves_wider B (MayLeave (B.image a) (B.in_flight a) (B.printed a)) (λ i x. HasBeside B a i) a b
        (λ i x left. record {
          bytes =
              record { size = left.bytes.size; rest = λ place none. left.bytes.rest place (λ flies. none (inl flies)) };
          small = left.small;
        }) run;
  }

  -- reads that leave the image keep the store
  pub keeps_read : (a b : D) → ReadsOnly B a b → B.image b ≡ B.image a → KeepsStore B a b
  keeps_read a b reads same = record {
    same = same;
    flight = reads.flight;
    later = reads.leaves.later;
    before = λ start i x le left.
        ⊎_elim (λ was. inl was) (λ may. inr (record { bytes = may.bytes; small = may.small }))
        (reads.leaves.before start i x le left);
  }

  pub beside_commit : (place : Place) (d e : Durable) (a b : D) → place.slot ≤ 1 → WritesIn B (written_at place) 512 a b
      → LeavesEither B place d e a b → WritesTotals B a b
  beside_commit place d e a b low written either =
      let fits : IsPair (pair_at place) = record { at_in = omega arith; slot_in = low } in
      let writes = whole_writes B (pair_at place) a b fits written in
      let run = whole_leaves B (pair_at place) (HasEither d e) a b fits either in
      record {
        rest = writes.rest;
        flight = writes.flight;
        leaves = leaves_wider B (LeavesBeside (B.image a) (B.in_flight a) (B.printed a) 0 1024 (HasEither d e))
            (λ i x. HasBeside B a i) a b
            (λ i x left. record { bytes = left.beside.bytes; small = left.beside.small }) run.leaves;
      }

module _ {D L : Type 0} {N : ℕ} (B : Ghosts D N L) (tables : TableParts) (seal : Seal) (a b : D) (d : Durable) where
  -- a print is any deed with its text
  pub print_point : (place : Place) (deed : Deed) (piece : List ℕ) → deed_text seal deed ≡ piece
      → HoldsState B place a d → ForSome d.hold (Fits tables) → KeepsStore B a b
      → LeavesOnly B a b (MayLeaveAmid (B.image a) (B.in_flight a) (B.printed a) piece)
      → (B.tells_text → Begins (B.printed a) (B.printed b) piece)
      → GoesBy B tables seal a b d (deed ∷ [])
  print_point place deed piece is settled fits kept run begun = record {
    leaves = leaves_wider B (MayLeaveAmid (B.image a) (B.in_flight a) (B.printed a) piece)
        (IsPointOfDeeds tables seal B.tells_text d (B.printed a) (deed ∷ [])) a b
        (λ i x amid. inl (record {
          holds = inl (record { has = left_has place d (B.image a) (B.in_flight a) i settled amid.bytes; fits = fits });
          begun = λ t. subst (Begins (B.printed a) x) (sym is) amid.text;
        })) run;
    stops = inl (record {
      holds = inl (record {
        has = left_has place d (B.image b) (B.in_flight b) (B.image b) (settled_kept B place d a b kept settled)
            (record { size = refl; rest = λ place none. refl });
        fits = fits;
      });
      begun = λ t. subst (Begins (B.printed a) (B.printed b)) (sym is) (begun t);
    });
  }

  -- a commit is any deed that leaves its state
  either_holds : (e : Durable) (deed : Deed) (i : List ℕ) → after_deed d deed ≡ e → ForSome d.hold (Fits tables)
      → ForSome e.hold (Fits tables) → HasEither d e i
      → (HasFittingState tables i d) ⊎ (HasFittingState tables i (after_deed d deed))
  either_holds e deed i is fits fitting (inl was) = inl (record { has = was; fits = fits })
  either_holds e deed i is fits fitting (inr now) =
      inr (subst (λ (x : Durable). HasFittingState tables i x) (sym is) (record { has = now; fits = fitting }))

  pub commit_point : (place : Place) (e : Durable) (deed : Deed) → after_deed d deed ≡ e → ForSome d.hold (Fits tables)
      → ForSome e.hold (Fits tables) → LeavesEither B place d e a b → B.printed b ≡ B.printed a
      → GoesBy B tables seal a b d (deed ∷ [])
  commit_point place e deed is fits fitting run same = record {
    leaves = leaves_wider B (LeavesBeside (B.image a) (B.in_flight a) (B.printed a) (written_at place) 512
        (HasEither d e)) (IsPointOfDeeds tables seal B.tells_text d (B.printed a) (deed ∷ [])) a b
        (λ i x left. inl (record {
          holds = either_holds e deed i is fits fitting left.stands;
          begun = λ t. begins_not (B.printed a) x (deed_text seal deed) left.beside.text;
        })) run.leaves;
    stops = inl (record {
      holds = either_holds e deed (B.image b) is fits fitting run.holds;
      begun = λ t. begins_not (B.printed a) (B.printed b) (deed_text seal deed) same;
    });
  }

  -- a scan is no deed
  pub scan_point : (place : Place) → HoldsState B place a d → ForSome d.hold (Fits tables)
      → SameBut (B.in_flight a) (B.image a) (B.image b)
      → LeavesOnly B a b (MayLeave (B.image a) (B.in_flight a) (B.printed a)) → B.printed b ≡ B.printed a
      → GoesBy B tables seal a b d []
  scan_point place settled fits same run text = record {
    leaves = leaves_wider B (MayLeave (B.image a) (B.in_flight a) (B.printed a))
        (IsPointOfDeeds tables seal B.tells_text d (B.printed a) []) a b
        (λ i x left. (
          record { has = left_has place d (B.image a) (B.in_flight a) i settled left.bytes; fits = fits },
          λ t. left.text,
        )) run;
    stops = (
      record { has = left_has place d (B.image a) (B.in_flight a) (B.image b) settled same; fits = fits },
      λ t. text,
    );
  }
