-- What a call comes to when its last line is printed.
use Rattle.std.proofs.Common.{[], ℕ, ◌++◌, ◌+◌, ◌<◌, ◌∙◌, ◌∷◌, ◌≡◌, ◌≢◌, ◌≤◌, ◌⊎◌, List, None, Option, Some, ap}
use Rattle.std.proofs.Common.{append_assoc, arith, inl, inr, length, length-append, refl, subst, sym}
use Rattle.{std.proofs.lemmas.{Bool.{cases_eq}, List.{ext_get_or}}, log_commands.specs.Filed.{EndsAt, Files, IsOther}}
use Rattle.outside.specs.{Runs.{IsAtRest, LeavesNow, MayHold}, declared.files.Files.{Ghosts as FileGhosts}}
use Rattle.outside.proofs.Laws.{begins_after, begins_more, leaves_kept, leaves_then, leaves_wider}
use Rattle.log_commands.specs.BeforeLastLine.{CallReachesLine, IsBrokenOff, IsDue, IsTold}
use Rattle.log_commands.specs.Calls.{AppendsNothing, IsCall, IsCutShort, IsFit, IsNewestOf, IsOfTaxi, IsOneTaxi}
use Rattle.log_commands.specs.Calls.{IsWhole, LeavesLog, LeavesLogUnwritten, MayEnd, MayHave, MayHaveReadFault}
use Rattle.log_commands.specs.{Calls.{TakesNothing, WritesNothing, shown_of}, Filed.Files.{appended, over, passed}}
use Rattle.log_commands.specs.Common.{BadLog, BadWords, Begins, BoardFault, BrokenLog, Call, Ended, File, Filed, Ghosts}
use Rattle.log_commands.specs.Common.{KeepsStore, LeavesFromSync, LeavesOnly, Listed, MayLeave, OtherTaxi, ReadFault}
use Rattle.log_commands.specs.Common.{ReadsOnly, RisesOnlyIf, Rose, Rows, SameBut, Show, Shown, TooLong, stream_limit}
use Rattle.log_commands.{specs.Endings.{line_of, status_of}, proofs.{CallEnds.{some_all}, OneList.{none_bad, one_list}}}
use Rattle.log_commands.specs.{Filings.{StandsForSome, newest_of}, LogList.{StandsFor, last_ones}, Record.{Record}}
use Rattle.log_commands.proofs.{AgainFiled.{again_nothing}, Causes.{rises_later}, ReadOnlyCalls.{reads_none}}
use Rattle.log_commands.proofs.EndCases.{fault_has}
use Rattle.log_commands.specs.declared.file_roll.FileEnd.TheVariants as ends

-- ---- statuses

pub eight_is : (ended : Ended) → status_of ended ≡ 8 → ended ≡ BoardFault
eight_is (Filed count) e = absurd (omega (arith, e))
eight_is Shown e = absurd (omega (arith, e))
eight_is Listed e = absurd (omega (arith, e))
eight_is BadWords e = absurd (omega (arith, e))
eight_is (BadLog slot) e = absurd (omega (arith, e))
eight_is BrokenLog e = absurd (omega (arith, e))
eight_is (OtherTaxi place) e = absurd (omega (arith, e))
eight_is TooLong e = absurd (omega (arith, e))
eight_is ReadFault e = absurd (omega (arith, e))
eight_is BoardFault e = refl

silent_end : (ended : Ended) → status_of ended ≡ 8 → line_of ended ≡ []
silent_end ended e = ap line_of (eight_is ended e)

-- a reason stays one if the call whose board failed has its count of faults in the end
may_later : (call : Option Call) (image roll rest : List ℕ) (read_failed then now : Type 0) (ended : Ended)
    (found filed : List Record) → (ended ≡ BoardFault → now)
    → MayEnd call image roll rest read_failed then ended found filed
    → MayEnd call image roll rest read_failed now ended found filed
may_later call image roll rest read_failed then now (Filed count) found filed later may = may
may_later call image roll rest read_failed then now Shown found filed later may = may
may_later call image roll rest read_failed then now Listed found filed later may = may
may_later call image roll rest read_failed then now BadWords found filed later may = may
may_later call image roll rest read_failed then now (BadLog slot) found filed later may = may
may_later call image roll rest read_failed then now BrokenLog found filed later may = may
may_later call image roll rest read_failed then now (OtherTaxi place) found filed later may = may
may_later call image roll rest read_failed then now TooLong found filed later may = may
may_later call image roll rest read_failed then now ReadFault found filed later may = may
may_later call image roll rest read_failed then now BoardFault found filed later may = (may.0, later refl)

-- ---- what the last line leaves of the log

module _ {D L : Type 0} {N : ℕ} (B : Ghosts D N L) where
  settled_hold : (board : D) (image : List ℕ) → IsAtRest B board → MayHold (B.image board) (B.in_flight board) image
      → image ≡ B.image board
  settled_hold board image settled hold =
      ext_get_or 0 image (B.image board) hold.bytes.size (λ place lt. hold.bytes.rest place (settled place))

  earlier_hold : (old new : D) (image : List ℕ) → SameBut (B.in_flight old) (B.image old) (B.image new)
      → ((place : ℕ) → B.in_flight new place → B.in_flight old place) → MayHold (B.image new) (B.in_flight new) image
      → MayHold (B.image old) (B.in_flight old) image
  earlier_hold old new image same flight hold = record {
    bytes = record {
      size = hold.bytes.size ∙ same.size;
      rest = λ place none. hold.bytes.rest place (λ flies. none (flight place flies)) ∙ same.rest place none;
    };
    small = hold.small;
  }

  -- a call that read alone
  pub search_read : (log log' : D) (status : ℕ) → ReadsOnly B log log' → (status ≢ 8 → B.image log' ≡ B.image log)
      → LeavesLogUnwritten B log log' status
  search_read log log' status reads same = record {
    image = reads.image;
    same = same;
    flight = reads.flight;
    moments = leaves_wider B (MayLeave (B.image log) (B.in_flight log) (B.printed log))
        (λ image text. MayHold (B.image log) (B.in_flight log) image) log log'
        (λ image text left. record { bytes = left.bytes; small = left.small }) reads.leaves;
  }

  -- and then printed
  pub search_print : (log mid log' : D) (status status' : ℕ) → LeavesNow B mid → LeavesLogUnwritten B log mid status
      → KeepsStore B mid log' → (status' ≢ 8 → status ≢ 8) → LeavesLogUnwritten B log log' status'
  search_print log mid log' status status' now looks keeps fewer = record {
    image = subst (λ (i : List ℕ). SameBut (B.in_flight log) (B.image log) i) (sym keeps.same) looks.image;
    same = λ not. keeps.same ∙ looks.same (fewer not);
    flight = λ place flies. looks.flight place (keeps.flight place flies);
    moments = leaves_then B kind log mid log' looks.moments
        (leaves_wider B (λ image text. MayHold (B.image mid) (B.in_flight mid) image) kind mid log' (λ image text hold.
        earlier_hold log mid image looks.image looks.flight hold) (leaves_kept B mid log' now keeps));
  }
    where
      kind : List ℕ → List ℕ → Type 0
      kind = λ image text. MayHold (B.image log) (B.in_flight log) image

  pub search_keeps : (log mid log' : D) (status : ℕ) → LeavesNow B mid → ReadsOnly B log mid → B.image mid ≡ B.image log
      → KeepsStore B mid log' → LeavesLogUnwritten B log log' status
  search_keeps log mid log' status now reads same keeps = search_print log mid log' 0 status now
      (search_read log mid 0 reads (λ not. same)) keeps (λ not. λ zero. omega (arith, zero))

  -- a call that only printed
  pub search_kept : (log log' : D) (status : ℕ) → LeavesNow B log → KeepsStore B log log'
      → LeavesLogUnwritten B log log' status
  search_kept log log' status now keeps = search_keeps log log log' status now (reads_none B log now) refl keeps

  -- what a filing left is left
  leaves_printed : (log mid log' : D) (list filed : List Record) (status status' : ℕ) → LeavesNow B mid → LeavesLog B
      list filed log mid status → KeepsStore B mid log' → status ≢ 8 → LeavesLog B list filed log log' status'
  leaves_printed log mid log' list filed status status' now leaves keeps not = record {
    moments = by leaves.moments;
    stands = λ other. subst (StandsFor (last_ones 256 (list ++ filed))) (sym keeps.same) (leaves.stands not);
    settled = λ other place flies. leaves.settled not place (keeps.flight place flies);
  }
    where
      kind : List ℕ → List ℕ → Type 0
      kind = λ image text. StandsForSome list filed image

      printed : LeavesOnly B mid log' kind
      printed = leaves_wider B (λ image text. MayHold (B.image mid) (B.in_flight mid) image) kind mid log'
          (λ image text hold. some_all list filed image (subst (StandsFor (last_ones 256 (list ++ filed)))
          (sym (settled_hold mid image (leaves.settled not) hold)) (leaves.stands not)))
          (leaves_kept B mid log' now keeps)

      by : LeavesFromSync B (status ≡ 8) log mid kind → LeavesFromSync B (status' ≡ 8) log log' kind
      by (inl failed) = absurd (not failed.0)
      by (inr (synced, is, run)) = inr (synced, is, leaves_then B kind synced mid log' run printed)

  leaves_finished : (log mid log' : D) (list filed : List Record) (ended : Ended) (status' : ℕ) → LeavesNow B mid
      → LeavesLog B list filed log mid (status_of ended) → KeepsStore B mid log'
      → (line_of ended ≡ [] → (log' ≡ mid) × (status' ≡ status_of ended)) → LeavesLog B list filed log log' status'
  leaves_finished log mid log' list filed ended status' now leaves keeps silent = elim (cases_eq (status_of ended) 8) [
    | inl is ↦
        (let quiet = silent (silent_end ended is) in
        subst (λ (d : D). LeavesLog B list filed log d status') (sym quiet.0)
        (subst (LeavesLog B list filed log mid) (sym quiet.1) leaves))
    | inr not ↦ leaves_printed log mid log' list filed (status_of ended) status' now leaves keeps not
  ]

  -- what is printed
  told_end : (course ended : Ended) (found : List Record) (log mid log' : D) (status' : ℕ)
      → RisesOnlyIf (status' ≡ 8) (B.faults log) (B.faults log')
      → IsDue B course found log mid ended ⊎ IsBrokenOff B course found log mid ended
      → IsTold B ended mid log' status' → (line_of ended ≡ [] → (log' ≡ mid) × (status' ≡ status_of ended))
      → IsWhole B course found log log' status' ⊎ IsCutShort B course found log log' status'
  told_end course ended found log mid log' status' rises (inl due) (inl (status_is, printed)) silent = inl (record {
    status_is = status_is ∙ ap status_of due.ended_is;
    printed = λ told. printed told ∙ (ap (λ (t : List ℕ). t ++ line_of ended) (due.shown told)
        ∙ (append_assoc (B.printed log) (shown_of course found) (line_of ended)
        ∙ ap (λ (e : Ended). B.printed log ++ (shown_of course found ++ line_of e)) due.ended_is));
  })
  told_end course ended found log mid log' status' rises (inl due) (inr (status_is, rose, begun)) silent = inr (record {
    status_is = status_is;
    failed = rises.rose status_is;
    begun = λ told.
        subst (λ (e : Ended). Begins (B.printed log) (B.printed log') (shown_of course found ++ line_of e)) due.ended_is
        (begins_after (B.printed log) (B.printed mid) (B.printed log') (shown_of course found) (line_of ended)
        (due.shown told) (begun told));
  })
  told_end course ended found log mid log' status' rises (inr broken) told silent =
      let quiet = silent (ap line_of broken.ended_is) in
      inr (record {
        status_is = quiet.1 ∙ ap status_of broken.ended_is;
        failed = rises.rose (quiet.1 ∙ ap status_of broken.ended_is);
        begun = λ tells. begins_more (B.printed log) (B.printed log') (shown_of course found) (line_of course)
            (subst (λ (d : D). Begins (B.printed log) (B.printed d) (shown_of course found)) (sym quiet.0)
            (broken.begun tells));
      })

  -- a course at which the board failed has come to its end
  board_ends : (course ended : Ended) (found : List Record) (log mid log' : D) (status' : ℕ)
      → IsDue B course found log mid ended ⊎ IsBrokenOff B course found log mid ended
      → (line_of ended ≡ [] → (log' ≡ mid) × (status' ≡ status_of ended)) → course ≡ BoardFault → status' ≡ 8
  board_ends course ended found log mid log' status' (inl due) silent is =
      let e = due.ended_is ∙ is in (silent (ap line_of e)).1 ∙ ap status_of e
  board_ends course ended found log mid log' status' (inr broken) silent is =
      let e = broken.ended_is in (silent (ap line_of e)).1 ∙ ap status_of e

  -- the count of faults of the board, behind the last line
  pub fault_finished : (ended : Ended) (log mid log' : D) (status' : ℕ)
      → RisesOnlyIf (ended ≡ BoardFault) (B.faults log) (B.faults mid)
      → (ended ≢ BoardFault → RisesOnlyIf (status' ≡ 8) (B.faults mid) (B.faults log'))
      → (line_of ended ≡ [] → (log' ≡ mid) × (status' ≡ status_of ended))
      → RisesOnlyIf (status' ≡ 8) (B.faults log) (B.faults log')
  fault_finished ended log mid log' status' first next silent = elim (cases_eq (status_of ended) 8) [
    | inl is ↦
        (let quiet = silent (silent_end ended is) in record {
          kept = λ no. absurd (no (quiet.1 ∙ is));
          rose = λ _. subst (λ (d : D). Rose (B.faults log) (B.faults d)) (sym quiet.0)
              (first.rose (eight_is ended is));
        })
    | inr not ↦
        (let other : ended ≢ BoardFault = λ e. not (ap status_of e) in
        rises_later (B.faults log) (B.faults mid) (B.faults log') (first.kept other) (next other))
  ]

  -- what writes nothing at its status has written nothing before its last line
  pub writes_before : (call : Option Call) (ended : Ended) (log log' : D) (status : ℕ) → IsTold B ended log log' status
      → WritesNothing call status → WritesNothing call (status_of ended)
  writes_before call ended log log' status told (inl not) = inl not
  writes_before call ended log log' status (inl whole) (inr range) = subst (WritesNothing call) whole.0 (inr range)
  writes_before call ended log log' status (inr cut) (inr range) = absurd (omega (arith, cut.0, range.1))

  -- and what takes nothing of the roll has taken nothing
  pub takes_before : (call : Option Call) (ended : Ended) (log log' : D) (status : ℕ) → IsTold B ended log log' status
      → TakesNothing call status → TakesNothing call (status_of ended)
  takes_before call ended log log' status told (inl not) = inl not
  takes_before call ended log log' status (inl whole) (inr range) = subst (TakesNothing call) whole.0 (inr range)
  takes_before call ended log log' status (inr cut) (inr range) = absurd (omega (arith, cut.0, range.1))

  -- and only looks at the log behind it too
  pub search_told : (log mid log' : D) (ended : Ended) (status : ℕ) → LeavesNow B mid
      → LeavesLogUnwritten B log mid (status_of ended) → KeepsStore B mid log' → IsTold B ended mid log' status
      → LeavesLogUnwritten B log log' status
  search_told log mid log' ended status now looks keeps told =
      search_print log mid log' (status_of ended) status now looks keeps (λ not. fewer not told)
    where
      fewer : status ≢ 8 → IsTold B ended mid log' status → status_of ended ≢ 8
      fewer not (inl whole) = λ e. not (whole.0 ∙ e)
      fewer not (inr cut) = absurd (not cut.0)

  -- if a read may have failed before the last line, it may have at the status
  pub reads_finished : (ended : Ended) (log log' : D) (status : ℕ) → IsTold B ended log log' status
      → MayHaveReadFault (status_of ended) → MayHaveReadFault status
  reads_finished ended log log' status (inl whole) failed = subst MayHaveReadFault (sym whole.0) failed
  reads_finished ended log log' status (inr cut) failed = inr (inr cut.0)

  pub has_finished : (call : Option Call) (ended : Ended) (log log' : D) (status : ℕ) → MayHave call (status_of ended)
      → IsTold B ended log log' status → MayHave call status
  has_finished call ended log log' status has (inl whole) = subst (MayHave call) (sym whole.0) has
  has_finished call ended log log' status has (inr cut) = fault_has call status cut.0

module _ {E D L : Type 0} {N : ℕ} (F : FileGhosts E) (B : Ghosts D N L) where
  -- a call
  pub call_told : (call : Option Call) (files files' : E) (log mid log' : D) (steps steps' steps'' : ℕ) (ended : Ended)
      (status' : ℕ) → LeavesNow B mid → CallReachesLine F B call files files' log mid steps steps' ended
      → IsTold B ended mid log' status' → (line_of ended ≡ [] → (log' ≡ mid) × (status' ≡ status_of ended))
      → KeepsStore B mid log' → RisesOnlyIf (status' ≡ 8) (B.faults log) (B.faults log') → steps'' ≤ steps' + 1
      → IsCall F B call files files' log log' steps steps'' status'
  call_told call files files' log mid log' steps steps' steps'' ended status' now comes told silent keeps rises
      few = record {
        ended = comes.course;
        found = comes.found;
        filed = comes.filed;
        may = may_later call (B.image log) (F.rest files 1) (F.rest files' 1)
            (Rose (F.faults files 1) (F.faults files' 1))
            (Rose (B.faults log) (B.faults mid))
            (Rose (B.faults log) (B.faults log')) comes.course comes.found comes.filed
            (λ is. rises.rose (board_ends B comes.course ended comes.found log mid log' status' comes.stands silent is))
            comes.may;
        ends = told_end B comes.course ended comes.found log mid log' status' rises comes.stands told silent;
        leaves = λ file list stands. leaves_finished B log mid log' list comes.filed ended status' now
            (comes.leaves file list stands) keeps silent;
        few = λ file. omega (arith, comes.few file, few);
      }

  -- ---- what follows of a call

  show_no_file : ◌≡◌ {A = Option Call} (Some Show) (Some File) → ⊥
  show_no_file e = absurd cc

  rows_no_file : ◌≡◌ {A = Option Call} (Some Rows) (Some File) → ⊥
  rows_no_file e = absurd cc

  none_no_some : (call : Option Call) (command : Call) → call ≡ None → call ≡ Some command → ⊥
  none_no_some call command e f = absurd cc

  module _ (files files' : E) (log log' : D) (status : ℕ) where
    again_end : (call : Option Call) (ended : Ended) (found filed : List Record) → call ≡ Some File
        → MayEnd call (B.image log) (F.rest files 1) (F.rest files' 1) (Rose (F.faults files 1) (F.faults files' 1))
        (Rose (B.faults log) (B.faults log')) ended found filed
        → ((list : List Record) → StandsFor list (B.image log) → LeavesLog B list filed log log' status)
        → status ≡ status_of ended → (status ≡ 0) ⊎ ((status ≡ 4) ⊎ (status ≡ 5))
        → AppendsNothing (B.image log') (F.rest files 1)
    again_end call (Filed count) found filed file up leaves is good =
        again_nothing (ends.Filed count) found filed up.last (B.image log') (F.rest files 1)
        (F.rest files' 1) tt up.ends ((leaves found up.stands).stands (λ e. omega (arith, is, e)))
    again_end call Shown found filed file may leaves is good = absurd (show_no_file (sym may.0 ∙ file))
    again_end call Listed found filed file may leaves is good = absurd may
    again_end call BadWords found filed file may leaves is good = absurd (none_no_some call File may file)
    again_end call (BadLog slot) found filed file may leaves is good = absurd (omega (arith, is, good))
    again_end call BrokenLog found filed file may leaves is good = absurd (omega (arith, is, good))
    again_end call (OtherTaxi place) found filed file (up, in_roll) leaves is good =
        again_nothing (ends.OtherTaxi place) found filed up.last (B.image log') (F.rest files 1)
        (F.rest files' 1) tt up.ends ((leaves found up.stands).stands (λ e. omega (arith, is, e)))
    again_end call TooLong found filed file up leaves is good =
        again_nothing ends.TooLong found filed up.last (B.image log') (F.rest files 1) (F.rest files' 1) tt up.ends
        ((leaves found up.stands).stands (λ e. omega (arith, is, e)))
    again_end call ReadFault found filed file may leaves is good = absurd (omega (arith, is, good))
    again_end call BoardFault found filed file may leaves is good = absurd (omega (arith, is, good))

    pub call_again : (call : Option Call) (steps steps' : ℕ) → IsCall F B call files files' log log' steps steps' status
        → call ≡ Some File → (status ≡ 0) ⊎ ((status ≡ 4) ⊎ (status ≡ 5))
        → AppendsNothing (B.image log') (F.rest files 1)
    call_again call steps steps' is file good = elim is.ends [
      | inl whole ↦ again_end call is.ended is.found is.filed file is.may (is.leaves file) whole.status_is good
      | inr cut ↦ absurd (omega (arith, cut.status_is, good))
    ]

  -- ---- a call without a fault

  of_taxi_first : (taxi : List ℕ) (a b : List Record) → IsOfTaxi taxi (a ++ b) → IsOfTaxi taxi a × IsOfTaxi taxi b
  of_taxi_first taxi [] b h = (tt, h)
  of_taxi_first taxi (x ∷ a) b h = let there = of_taxi_first taxi a b h.1 in ((h.0, there.0), there.1)

  newest_taxi : (taxi : List ℕ) (newest last : Option Record) (receipts filed : List Record)
      → Files newest receipts filed last → IsNewestOf taxi newest → IsOfTaxi taxi receipts → IsNewestOf taxi last
  newest_taxi taxi newest last receipts filed (over n) first all = first
  newest_taxi taxi newest last receipts filed (passed n l r rest those older files) first all =
      newest_taxi taxi n last rest those files first all.1
  newest_taxi taxi newest last receipts filed (appended n l r rest those newer files) first all =
      newest_taxi taxi (Some r) last rest those files all.0 all.1

  not_other : (taxi : List ℕ) (last : Option Record) (other : Record) → IsNewestOf taxi last → other.taxi ≡ taxi
      → IsOther last other → ⊥
  not_other taxi None other last_is is differs = differs
  not_other taxi (Some l) other last_is is differs = differs (is ∙ sym last_is)

  one_taxi_ends : (roll : List ℕ) (newest last : Option Record) (filed : List Record) (place : ℕ)
      → IsOneTaxi roll newest → EndsAt newest roll filed last place → ⊥
  one_taxi_ends roll newest last filed place one h =
      let all =
      of_taxi_first one.taxi h.before (h.other ∷ []) (one.receipts (h.before ++ h.other ∷ []) h.rest h.reads) in
      not_other one.taxi last h.other
      (newest_taxi one.taxi newest last h.before filed h.files one.newest_is all.0) all.1.0 h.differs

  -- a roll that is filed is a fit one
  fit_file : (call : Option Call) (command : Call) (roll : List ℕ) (newest : Option Record) → call ≡ Some command
      → call ≡ Some File
      → IsFit command roll newest → (length roll < stream_limit) × IsOneTaxi roll newest
  fit_file call File roll newest calls file fit = fit
  fit_file call Show roll newest calls file fit = absurd (show_no_file (sym calls ∙ file))
  fit_file call Rows roll newest calls file fit = absurd (rows_no_file (sym calls ∙ file))

  module _ (files files' : E) (log log' : D) (status : ℕ) (records : List Record)
      (stands : StandsFor records (B.image log))
      (command : Call) (fit : IsFit command (F.rest files 1) (newest_of records))
      (read : ¬ Rose (F.faults files 1) (F.faults files' 1)) (board : ¬ Rose (B.faults log) (B.faults log')) where
    whole_end : (call : Option Call) (ended : Ended) (found filed : List Record) → call ≡ Some command
        → MayEnd call (B.image log) (F.rest files 1) (F.rest files' 1) (Rose (F.faults files 1) (F.faults files' 1))
        (Rose (B.faults log) (B.faults log')) ended found filed → status ≡ status_of ended → status ≡ 0
    whole_end call (Filed count) found filed calls may is = is
    whole_end call Shown found filed calls may is = is
    whole_end call Listed found filed calls may is = absurd may
    whole_end call BadWords found filed calls may is = absurd (none_no_some call command may calls)
    whole_end call (BadLog slot) found filed calls may is =
        absurd (none_bad (B.image log) records slot may.1.small stands may.1.bad)
    whole_end call BrokenLog found filed calls may is = absurd (may.1.no_list records stands)
    whole_end call (OtherTaxi place) found filed calls (up, (last, h)) is =
        let fits = fit_file call command (F.rest files 1) (newest_of records) calls up.command fit in
        absurd (one_taxi_ends (F.rest files 1) (newest_of records) last filed place fits.1
        (subst (λ (l : List Record). EndsAt (newest_of l) (F.rest files 1) filed last place)
        (one_list (B.image log) found records up.stands stands) h))
    whole_end call TooLong found filed calls up is =
        let fits = fit_file call command (F.rest files 1) (newest_of records) calls up.command fit in
        absurd (omega (arith, fits.0, up.ends.3, ap length up.ends.2, length-append up.ends.0 (F.rest files' 1)))
    whole_end call ReadFault found filed calls may is = absurd (read may.1)
    whole_end call BoardFault found filed calls may is = absurd (board may.1)

    pub call_whole : (call : Option Call) (steps steps' : ℕ) → IsCall F B call files files' log log' steps steps' status
        → call ≡ Some command → status ≡ 0
    call_whole call steps steps' is calls = elim is.ends [
      | inl whole ↦ whole_end call is.ended is.found is.filed calls is.may whole.status_is
      | inr cut ↦ absurd (board cut.failed)
    ]
