-- The command `run`: what it answers and leaves once its drive was carried out, and after its last line.
use Rattle.std.proofs.Common.{[], ℕ, ◌++◌, ◌∙◌, ◌∷◌, ◌≡◌, ◌≢◌, ◌⊎◌, Err, List, Ok, Result, ap, inl, inr, refl, subst}
use Rattle.{std.proofs.{Common.{sym, ⊎_elim}, lemmas.List.{append-nil}}, outside.specs.Disk.{MayLeaveAmid}}
use Rattle.outside.{specs.Runs.{IsAtRest as NothingFlies, KeepsStore, LeavesOnly, MayHold}, proofs.Laws.{leaves_wider}}
use Rattle.{outside.specs.declared.files.Files.{Ghosts as FileGhosts}, slot_store.specs.Syncs.{IsAsHeld}}
use Rattle.slot_store.{specs.Writes.{OrWithin}, proofs.Laws.{from_sync_as, goes_on, settled_already}}
use Rattle.meter_run.specs.{OnStore.{HasBeside, WritesTotals}, Runs.{EndsRun, HasDone, HasStopped, RunsUpTo}}
use Rattle.{meter_run.proofs.Laws.{left_has, settled_has, turn_behind, turn_kept}, call_ends.specs.Call.{IsCall, IsEnd}}
use Rattle.call_ends.{specs.Unwritten.{LeavesUnwritten}, proofs.Laws.{board_or_not}}
use Rattle.drive_commands.specs.Common.{Answer, Answered, BadAt, Begins, BoardFailed, CommitsInTurn, Durable, Ended}
use Rattle.drive_commands.specs.Common.{Endless, Ghosts, IsCutOfDeeds, IsSettingOf, LeavesFromSync, OpensWith, Prints}
use Rattle.drive_commands.specs.Common.{ReadFailed, Rose, RunFault, SameBut, StreamEnd, Whole, after_deeds, changes_of}
use Rattle.drive_commands.specs.Common.{drive_end, line_in, line_of, opening_in, status_of, texts}
use Rattle.drive_commands.{specs.{DriveEnds.{ended_by}, Fare.{drive_answer}}, proofs.RunStarts.{starts_again}}
use Rattle.drive_commands.specs.Run.{IsCutOfCourse, IsCutOfRun, IsCutOfStart, IsOfTotals, IsRun, StandsAfterRun, Start}
use Rattle.drive_commands.specs.Run.{bytes_in, deeds_in, run_answer, run_command, setting_in, shown_in_run, start_at}
use Rattle.drive_commands.{specs.Run.{start_of, tables_in}, proofs.TariffDrives.{end_of-status, left-whole, one_of}}
use Rattle.drive_commands.{specs.RunSteps.{RunReachesLine}, proofs.RunCuts.{cut_begins, last_cut, longer_cut}}
use Rattle.drive_commands.proofs.RunAnswers.{found-held, outside_then, run_entries, same_outside}
use Rattle.meter_run.specs.declared.fault.RunFault.TheVariants as faults
use Rattle.call_ends.specs.declared.ending.Ended.TheVariants as ended

module _ {E D L : Type 0} {N : ℕ} (F : FileGhosts E) (B : Ghosts D N L) (files files' : E) (old mid new : D) (s : Start)
    (begins : start_at F B files old ≡ Ok s) where
  abbrev image : List ℕ
  image = B.image old

  abbrev printed : List ℕ
  printed = B.printed old

  abbrev drive : List ℕ
  drive = F.rest files 2

  -- what is found of the start is found of what the run begins with
  found : (bytes line i x : List ℕ) → IsCutOfStart B.tells_text image printed s bytes line i x
      → IsCutOfRun B.tells_text image printed (start_at F B files old) bytes line i x
  found bytes line i x h =
      subst (λ (r : Result Start Ended). IsCutOfRun B.tells_text image printed r bytes line i x) (sym begins) h

  module _ (told : B.tells_image) (is : IsSettingOf (setting_in s) (tables_in s) s.seal)
      (opens : OpensWith B (tables_in s) mid s.durable) (fails : Type 0) (went : ¬ fails)
      (synced : LeavesFromSync B fails old mid (IsAsHeld B old)) (settled : NothingFlies B mid)
      (same : B.image mid ≡ B.image old) (text : B.printed mid ≡ B.printed old) (kept : KeepsStore B old mid)
      (beside : WritesTotals B mid new) where
    -- the bytes of the seal
    not_flying : (place : ℕ) → ¬ (IsOfTotals place) → ¬ (OrWithin (B.in_flight mid) 0 1024 place)
    not_flying place outside (inl flies) = settled place flies
    not_flying place outside (inr within) = outside within

    outside_left : (i : List ℕ) → SameBut (OrWithin (B.in_flight mid) 0 1024) (B.image mid) i
        → SameBut IsOfTotals image i
    outside_left i h =
        outside_then image (B.image mid) i (same_outside image (B.image mid) same)
        (record { size = h.size; rest = λ place outside. h.rest place (not_flying place outside) })

    outside_held : (i : List ℕ) → MayHold (B.image new) (B.in_flight new) i → SameBut IsOfTotals image i
    outside_held i h =
        outside_then image (B.image new) i (outside_left (B.image new) beside.rest)
        (record {
          size = h.bytes.size;
          rest = λ place outside. h.bytes.rest place (λ flies. not_flying place outside (beside.flight place flies));
        })

    -- a cut amid the drive
    amid : (bytes line : List ℕ) → LeavesOnly B mid new (λ i x. IsCutOfDeeds (tables_in s) s.seal B.tells_text s.durable
        (B.printed mid) (deeds_in s bytes) i x × HasBeside B mid i)
        → LeavesFromSync B fails old new
        (λ i x. IsCutOfRun B.tells_text image printed (start_at F B files old) bytes line i x)
    amid bytes line run =
        let Kind : List ℕ → List ℕ → Type 0 =
        λ i x. IsCutOfRun B.tells_text image printed (start_at F B files old) bytes line i x in
        goes_on B (IsAsHeld B old) Kind fails fails old mid new went
        (λ i x held. found-held B.tells_text image printed (F.rest files 1)
        (start_at F B files old) refl bytes line i x held.image held.text) synced
        (leaves_wider B (λ i x. IsCutOfDeeds (tables_in s) s.seal B.tells_text s.durable (B.printed mid)
        (deeds_in s bytes) i x × HasBeside B mid i) Kind mid new
        (λ i x h. found bytes line i x (record {
          cut = longer_cut (tables_in s) s.seal B.tells_text s.durable printed (deeds_in s bytes) (Prints line ∷ []) i x
              (subst (λ (p : List ℕ). IsCutOfDeeds (tables_in s) s.seal B.tells_text s.durable p
              (deeds_in s bytes) i x) text h.0);
          seal_stays = outside_left i h.1.bytes;
        })) run)

    -- all was done
    module _ (bytes line : List ℕ) (done : HasDone B (tables_in s) s.seal mid new s.durable (deeds_in s bytes)) where
      shown : B.tells_text → B.printed new ≡ printed ++ texts s.seal (deeds_in s bytes)
      shown t = done.printed t ∙ ap (λ (p : List ℕ). p ++ texts s.seal (deeds_in s bytes)) text

      stands-done : StandsAfterRun B.tells_text image printed (start_at F B files old) bytes (B.image new)
      stands-done = subst (λ (r : Result Start Ended). StandsAfterRun B.tells_text image printed r bytes (B.image new))
          (sym begins) (record {
            state = settled_has done.opens.place (after_deeds s.durable (deeds_in s bytes)) (B.image new)
                (B.in_flight new) done.opens.settled;
            seal_stays = outside_left (B.image new) beside.rest;
          })

      rests-done : (i x : List ℕ) → MayHold (B.image new) (B.in_flight new) i
          → (B.tells_text → Begins (B.printed new) x line)
          → IsCutOfRun B.tells_text image printed (start_at F B files old) bytes line i x
      rests-done i x held begun = found bytes line i x (record {
        cut = last_cut (tables_in s) s.seal B.tells_text s.durable printed (deeds_in s bytes) line i x
            (left_has done.opens.place (after_deeds s.durable (deeds_in s bytes)) (B.image new)
            (B.in_flight new) i done.opens.settled held.bytes)
            done.opens.fits done.follows (run_entries s bytes)
            (λ t. subst (λ (p : List ℕ). Begins p x line) (shown t) (begun t));
        seal_stays = outside_held i held;
      })

      settled-done : NothingFlies B new
      settled-done place flies =
          ⊎_elim (settled place) (λ (within : IsOfTotals place). done.opens.settled.quiet place within flies)
          (beside.flight place flies)

    turn_by : (bytes : List ℕ) → HasDone B (tables_in s) s.seal mid new s.durable (deeds_in s bytes) → (t : Start)
        → start_at F B files old ≡ Ok t → CommitsInTurn B t.durable (changes_of (deeds_in t bytes)) old new
    turn_by bytes done t e = subst (λ (x : Start). CommitsInTurn B x.durable (changes_of (deeds_in x bytes)) old new)
        (one_start (start_at F B files old) begins e)
        (turn_kept B old mid new s.durable (changes_of (deeds_in s bytes)) kept done.turn)
      where
        one_start : {other : Start} (r : Result Start Ended) → r ≡ Ok s → r ≡ Ok other → s ≡ other
        one_start (Ok x) a b = cc
        one_start (Err w) a b = cc

    not_refused : (why : Ended) → start_at F B files old ≡ Err why → ⊥
    not_refused why e = by (start_at F B files old) begins e
      where
        by : (r : Result Start Ended) → r ≡ Ok s → r ≡ Err why → ⊥
        by (Ok x) a b = cc
        by (Err w) a b = cc

    module _ (read : F.rest files' 1 ≡ []) where
      answer_is : run_answer (start_at F B files old) drive
          ≡ drive_answer (texts s.seal (deeds_in s drive)) (drive_end drive)
      answer_is = ap (λ (r : Result Start Ended). run_answer r drive) begins

      shown_is : (bytes : List ℕ) → shown_in_run (start_at F B files old) bytes ≡ texts s.seal (deeds_in s bytes)
      shown_is bytes = ap (λ (r : Result Start Ended). shown_in_run r bytes) begins

      -- the drive was carried out to its end
      to_end : (end : Ended) (reached : StreamEnd)
          → RunsUpTo B (tables_in s) s.seal mid new drive (F.rest files' 2) reached → end ≢ ended.BoardFault
          → (drive_answer (texts s.seal (deeds_in s drive)) reached).status ≡ status_of end
          → (drive_answer (texts s.seal (deeds_in s drive)) reached).line ≡ line_of end
          → (drive_answer (texts s.seal (deeds_in s drive)) reached).shown ≡ texts s.seal (deeds_in s drive)
          → RunReachesLine F B files files' old new end
      to_end end reached h good status line shown_at =
          let done : HasDone B (tables_in s) s.seal mid new s.durable (deeds_in s drive) =
          h.runs told (setting_in s) s.durable is opens in
          let e : run_answer (start_at F B files old) drive ≡ drive_answer (texts s.seal (deeds_in s drive)) reached =
          answer_is ∙ ap (drive_answer (texts s.seal (deeds_in s drive))) h.end_is in
          let status_at : (run_answer (start_at F B files old) drive).status
          ≡ (drive_answer (texts s.seal (deeds_in s drive)) reached).status = ap (λ (a : Answer). a.status) e in
          let line_at : (run_answer (start_at F B files old) drive).line ≡ line_of end =
          ap (λ (a : Answer). a.line) e ∙ line in
          record {
            comes = record {
              course = Answered;
              may = record {
                whole = λ zero word reads. one_of (F.rest files) (F.rest files') word reads read
                    (left-whole drive (F.rest files' 2) h.tells
                    (h.end_is ∙ end_of-status (texts s.seal (deeds_in s drive)) reached (sym status_at ∙ zero)));
                bad = λ three. h.tells;
              };
              stands = inl (record {
                status_is = sym (status_at ∙ status);
                line_is = sym line_at;
                shown = λ t. shown drive (line_of end) done t
                    ∙ ap (λ (x : List ℕ). printed ++ x) (sym (ap (λ (a : Answer). a.shown) e ∙ shown_at));
              });
            };
            stands = λ not_board. stands-done drive (line_of end) done;
            leaves = from_sync_as B _ _ fails (status_of end ≡ 8) old new (λ f. absurd (went f)) (λ i x m. m)
                (amid drive (line_in run_command (F.rest files) image Answered) done.cuts);
            rests = λ not_board i x held begun.
                subst (λ (l : List ℕ). IsCutOfRun B.tells_text image printed (start_at F B files old) drive l i x)
                (sym line_at)
                (rests-done drive (line_of end) done i x held begun);
            settled = λ not_board. settled-done drive (line_of end) done;
            unwritten = λ why f. absurd (not_refused why f);
            same = λ why f. absurd (not_refused why f);
            turn = λ t e not_board. turn_by drive done t e;
          }

      -- by how the run of the drive ended
      pub ran-comes : (ran : Result (Unit {0}) RunFault)
          → EndsRun B (tables_in s) s.seal mid new drive (F.rest files' 2) ran
          → (ran ≡ Err faults.ReadFault → Rose (F.faults files 2) (F.faults files' 2))
          → (ran ≡ Err faults.BoardFault → Rose (B.faults old) (B.faults new))
          → RunReachesLine F B files files' old new (ended_by ran)
      ran-comes (Ok u) h read_cause board_cause = to_end ended.Done Whole h (λ e. absurd cc) refl refl refl
      ran-comes (Err (faults.BadDrive n)) h read_cause board_cause =
          to_end (ended.BadDrive n) (BadAt n) h (λ e. absurd cc) refl refl refl
      ran-comes (Err faults.TooLong) h read_cause board_cause =
          to_end ended.EndlessDrive Endless h (λ e. absurd cc) refl refl refl
      ran-comes (Err faults.ReadFault) h read_cause board_cause =
          let done : HasDone B (tables_in s) s.seal mid new s.durable (deeds_in s h.taken) =
          h.printed told (setting_in s) s.durable is opens in
          record {
            comes = record {
              course = ReadFailed 2 h.taken;
              may = record {
                reads = inr refl;
                comes = inr (refl, record { start = s; begins = begins; going = h.stands });
                failed = read_cause refl;
                takes = h.split;
              };
              stands = inl (record {
                status_is = refl;
                line_is = refl;
                shown = λ t. shown h.taken (line_of ended.ReadFault) done t
                    ∙ ap (λ (x : List ℕ). printed ++ x) (sym (shown_is h.taken));
              });
            };
            stands = λ not_board. stands-done h.taken (line_of ended.ReadFault) done;
            leaves = from_sync_as B _ _ fails (status_of ended.ReadFault ≡ 8) old new (λ f. absurd (went f))
                (λ i x m. m) (amid h.taken (line_of ended.ReadFault) done.cuts);
            rests = λ not_board i x held begun. rests-done h.taken (line_of ended.ReadFault) done i x held begun;
            settled = λ not_board. settled-done h.taken (line_of ended.ReadFault) done;
            unwritten = λ why f. absurd (not_refused why f);
            same = λ why f. absurd (not_refused why f);
            turn = λ t e not_board. turn_by h.taken done t e;
          }
      ran-comes (Err faults.BoardFault) h read_cause board_cause =
          let part : HasStopped B (tables_in s) s.seal mid new s.durable (deeds_in s h.taken) =
          h.printed told (setting_in s) s.durable is opens in
          record {
            comes = record {
              course = BoardFailed h.taken;
              may = record { failed = board_cause refl; takes = h.split };
              stands = inr (record {
                ended_is = refl;
                failed = board_cause refl;
                started = λ t.
                    subst (λ (x : List ℕ). Begins printed (B.printed new) x)
                    (sym
                    (ap (λ (x : List ℕ). x ++ []) (shown_is h.taken) ∙ append-nil (texts s.seal (deeds_in s h.taken))))
                    (subst (λ (p : List ℕ). Begins p (B.printed new) (texts s.seal (deeds_in s h.taken))) text
                    (cut_begins (tables_in s) s.seal B.tells_text s.durable (B.printed mid) (deeds_in s h.taken)
                    (B.image new) (B.printed new) part.stops t));
              });
            };
            stands = λ not_board. absurd (not_board refl);
            leaves = from_sync_as B _ _ fails (status_of ended.BoardFault ≡ 8) old new (λ f. refl) (λ i x m. m)
                (amid h.taken [] part.cuts);
            rests = λ not_board. absurd (not_board refl);
            settled = λ not_board. absurd (not_board refl);
            unwritten = λ why f. absurd (not_refused why f);
            same = λ why f. absurd (not_refused why f);
            turn = λ t e not_board. absurd (not_board refl);
          }

-- a run whose drive was carried out may have written
pub ran-writes : (ran : Result (Unit {0}) RunFault) → run_command.writes (status_of (ended_by ran))
ran-writes (Ok u) = inl refl
ran-writes (Err (faults.BadDrive n)) = inr (inl refl)
ran-writes (Err faults.TooLong) = inr (inl refl)
ran-writes (Err faults.ReadFault) = inr (inr (inl refl))
ran-writes (Err faults.BoardFault) = inr (inr (inr refl))

-- ---- after the last line

module _ {E D L : Type 0} {N : ℕ} (F : FileGhosts E) (B : Ghosts D N L) (files files' : E) (old mid new : D)
    (end : Ended) (status : ℕ)
    (h : RunReachesLine F B files files' old mid end) (kept : KeepsStore B mid new)
    (line : LeavesOnly B mid new (MayLeaveAmid (B.image mid) (B.in_flight mid) (B.printed mid) (line_of end)))
    (silent : line_of end ≡ [] → new ≡ mid) where
  abbrev Kind : List ℕ → List ℕ → Type 0
  Kind i x = IsCutOfCourse F B files old h.comes.course i x

  finished : (status_of end ≡ 8 → status ≡ 8) → (end ≡ ended.BoardFault)
      ⊎ ((end ≢ ended.BoardFault) × (status_of end ≢ 8)) → LeavesFromSync B (status_of end ≡ 8) old mid Kind
      → LeavesFromSync B (status ≡ 8) old new Kind
  finished eight (inl is) leaves =
      subst (λ (board : D). LeavesFromSync B (status ≡ 8) old board Kind) (sym (silent (ap line_of is)))
      (from_sync_as B Kind Kind (status_of end ≡ 8) (status ≡ 8) old mid eight (λ i x m. m) leaves)
  finished eight (inr (good, not_8)) leaves =
      goes_on B Kind Kind (status_of end ≡ 8) (status ≡ 8) old mid new not_8 (λ i x m. m) leaves
      (leaves_wider B (MayLeaveAmid (B.image mid) (B.in_flight mid) (B.printed mid) (line_of end)) Kind mid new
      (λ i x amid. h.rests good i x (record { bytes = amid.bytes; small = amid.small }) (λ t. amid.text)) line)

  not_board : status ≢ 8 → IsEnd B.tells_text (Rose (B.faults mid) (B.faults new)) (status_of end) (line_of end) status
      (B.printed mid) (B.printed new) → end ≢ ended.BoardFault
  not_board not_8 (inl whole) e = not_8 (whole.status_is ∙ ap status_of e)
  not_board not_8 (inr cut) e = not_8 cut.status_is

  eighth : IsEnd B.tells_text (Rose (B.faults mid) (B.faults new)) (status_of end) (line_of end) status (B.printed mid)
      (B.printed new) → status_of end ≡ 8 → status ≡ 8
  eighth (inl whole) z = whole.status_is ∙ z
  eighth (inr cut) z = cut.status_is

  -- the next run begins over what a cut leaves
  next_start : (s : Start) (i x bytes line : List ℕ) → start_at F B files old ≡ Ok s
      → IsCutOfRun B.tells_text (B.image old) (B.printed old) (start_at F B files old) bytes line i x
      → (d : Durable) × (start_of (opening_in i) (F.rest files 1) ≡ Ok (record s { durable = d }))
  next_start s i x bytes line e m =
      let cut : IsCutOfStart B.tells_text (B.image old) (B.printed old) s bytes line i x =
      subst
      (λ (r : Result Start Ended). IsCutOfRun B.tells_text (B.image old) (B.printed old) r bytes line i x) e m in (
        cut.cut.found,
        starts_again (B.image old)
            (F.rest files 1) i s cut.cut.scanned.0 cut.cut.found e cut.seal_stays cut.cut.scanned.1 cut.cut.fits,
      )

  pub run-finished : (call : IsCall F B run_command files files' old new status) → call.course ≡ h.comes.course
      → IsEnd B.tells_text (Rose (B.faults mid) (B.faults new)) (status_of end) (line_of end) status (B.printed mid)
      (B.printed new)
      → (LeavesUnwritten B old mid → LeavesUnwritten B old new) → IsRun F B files files' old new status
  run-finished call course ends bytes =
      let leaves : LeavesFromSync B (status ≡ 8) old new (IsCutOfCourse F B files old call.course) =
      from_sync_as B Kind (IsCutOfCourse F B files old call.course) (status ≡ 8) (status ≡ 8) old new (λ f. f)
      (λ i x m. rw course m) (finished (eighth ends) (board_or_not end) h.leaves) in
      record {
        call = call;
        stands = λ not_8. rw course
            (subst (λ (i : List ℕ). StandsAfterRun B.tells_text (B.image old) (B.printed old) (start_at F B files old)
            (bytes_in h.comes.course (F.rest files 2)) i) (sym kept.same)
            (h.stands (not_board not_8 ends)));
        leaves = leaves;
        settled = λ still. settled_already B (IsCutOfCourse F B files old call.course) (status ≡ 8) old new still
            (found-held B.tells_text (B.image old) (B.printed old) (F.rest files 1) (start_at F B files old) refl
            (bytes_in call.course (F.rest files 2)) (line_in run_command (F.rest files) (B.image old) call.course)
            (B.image old) (B.printed old) refl refl) leaves;
        again = λ s i x e m. next_start s i x (bytes_in call.course (F.rest files 2))
            (line_in run_command (F.rest files) (B.image old) call.course) e m;
        unwritten = λ why e. record {
          bytes = bytes (h.unwritten why e);
          same = λ not_8. kept.same ∙ h.same why e (not_board not_8 ends);
        };
        turn = λ s e not_8. rw course (turn_behind B old mid new s.durable
            (changes_of (deeds_in s (bytes_in h.comes.course (F.rest files 2))))
            (h.turn s e (not_board not_8 ends)) kept);
      }
