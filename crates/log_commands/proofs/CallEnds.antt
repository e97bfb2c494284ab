-- What a call comes to before its last line, by what finding the log's end, filing a roll and showing records come to.
use Rattle.std.proofs.Common.{[], ℕ, ◌++◌, ◌+◌, ◌-◌, ◌∙◌, ◌≡◌, ◌≤◌, List, None, Option, Some, ap, arith, drop, inl, inr}
use Rattle.std.proofs.{Common.{length, refl, subst, sym}, lemmas.List.{append-nil, take_all}}
use Rattle.{outside.specs.declared.files.Files.{Ghosts as FileGhosts}, slot_store.proofs.Laws.{from_sync_as, goes_on}}
use Rattle.log_commands.specs.{BeforeLastLine.{CallReachesLine}, LogList.{StandsFor, last_ones}, ShownLog.{texts_of}}
use Rattle.log_commands.specs.{Calls.{FilesUpTo, IsCommand, LeavesLog, MayEnd, shown_of}, Filed.{EndsAt, IsFiledOf}}
use Rattle.log_commands.specs.Common.{BadWords, Begins, BoardFault, Call, Ended, File, FileEnd, Filed, Ghosts, IsAsHeld}
use Rattle.log_commands.specs.Common.{LeavesFromSync, LeavesOnly, OtherTaxi, ReadFault, Rose, Show, Shown, TooLong}
use Rattle.log_commands.specs.{Endings.{filing_end, status_of, unread_end}, declared.finding.FindFault.{FindFault}}
use Rattle.log_commands.specs.Filings.{EndsAs, FailsInRoll, FilesRoll, IsTailOf, LeavesSome, StandsForSome, newest_of}
use Rattle.log_commands.{specs.{Record.{Record}, Unread.{IsBroken, IsLowestBad}}, proofs.OneList.{none_bad, one_list}}
use Rattle.log_commands.{specs.declared.tail.Tail.{Tail}, proofs.{AgainFiled.{ends_in_roll}, OtherSlots.{bounds}}}
use Rattle.log_commands.specs.declared.file_roll.FileEnd.TheVariants as ends
use Rattle.log_commands.specs.declared.finding.FindFault.TheVariants as faults

-- ---- a list that the log stands for

pub few_records : (records : List Record) (image : List ℕ) → StandsFor records image → length records ≤ 256
few_records records image (last, ends) = (bounds last (length records) ends.count).most

pub last_all : (records : List Record) → length records ≤ 256 → last_ones 256 records ≡ records
last_all records few = ap (λ (n : ℕ). drop n records) (let e : length records - 256 ≡ 0 = omega (arith, few) in e)

-- the list itself, with none of the filed behind it
some_none : (records filed : List Record) (image : List ℕ) → StandsFor records image → StandsForSome records filed image
some_none records filed image stands = record {
  count = 0;
  within = omega arith;
  stands =
      inl (subst (λ (xs : List Record). StandsFor xs image) (sym (last_all records (few_records records image stands))
      ∙ ap (λ (xs : List Record). last_ones 256 xs) (sym (append-nil records))) stands);
}

-- the list with all of the filed behind it
pub some_all : (records filed : List Record) (image : List ℕ) → StandsFor (last_ones 256 (records ++ filed)) image
    → StandsForSome records filed image
some_all records filed image stands = record {
  count = length filed;
  within = omega arith;
  stands = inl (subst (λ (xs : List Record). StandsFor (last_ones 256 (records ++ xs)) image)
      (sym (take_all (length filed) filed (omega arith))) stands);
}

module _ {D L : Type 0} {N : ℕ} (B : Ghosts D N L) where
  -- a board whose image stands for a list, and of which nothing was written
  held_stands : (log : D) (list filed : List Record) → StandsFor list (B.image log) → (image text : List ℕ)
      → IsAsHeld B log image text → StandsForSome list filed image
  held_stands log list filed stands image text held =
      some_none list filed image (subst (StandsFor list) (sym held.image) stands)

  -- before anything is filed the log is left as it was
  pub leaves_found : (log log' : D) (list : List Record) (fails : Type 0) (status : ℕ) → (fails → status ≡ 8)
      → status ≡ 8 → StandsFor list (B.image log) → LeavesFromSync B fails log log' (IsAsHeld B log)
      → LeavesLog B list [] log log' status
  leaves_found log log' list fails status said is stands synced = record {
    moments = from_sync_as B (IsAsHeld B log) (λ image text. StandsForSome list [] image) fails
        (status ≡ 8) log log' said (held_stands log list [] stands) synced;
    stands = λ not. absurd (not is);
    settled = λ not. absurd (not is);
  }

module _ {E D L : Type 0} {N : ℕ} (F : FileGhosts E) (B : Ghosts D N L) where
  -- ---- the log isn't read

  -- nothing was found, and nothing is shown
  none_found : {call : Option Call} {files files' : E} {log log' : D} {steps steps' : ℕ} {end : Ended}
      → MayEnd call (B.image log) (F.rest files 1) (F.rest files' 1) (Rose (F.faults files 1) (F.faults files' 1))
      (Rose (B.faults log) (B.faults log')) end [] [] → shown_of end [] ≡ [] → B.printed log' ≡ B.printed log
      → ((list : List Record) → StandsFor list (B.image log) → LeavesLog B list [] log log' (status_of end))
      → steps' ≤ steps + 258 → CallReachesLine F B call files files' log log' steps steps' end
  none_found {log = log} {end = end} may none text leaves few = record {
    course = end;
    found = [];
    filed = [];
    may = may;
    stands = inl (record {
      ended_is = refl;
      shown = λ told. text ∙ (sym (append-nil (B.printed log)) ∙ ap (λ (t : List ℕ). B.printed log ++ t) (sym none));
    });
    leaves = λ file. leaves;
    few = λ file. omega (arith, few);
  }

  pub reaches_unread : (call : Option Call) (files files' : E) (log log' : D) (steps steps' : ℕ) (fault : FindFault)
      → IsCommand call
      → ((slot : ℕ) → fault ≡ faults.BadSlot slot → IsLowestBad (B.image log) slot) → (fault ≡ faults.Broken
      → IsBroken (B.image log)) → (fault ≡ faults.LogFault → Rose (B.faults log) (B.faults log'))
      → LeavesFromSync B (fault ≡ faults.LogFault) log log' (IsAsHeld B log) → B.printed log' ≡ B.printed log
      → steps' ≤ steps + 258 → CallReachesLine F B call files files' log log' steps steps' (unread_end fault)
  reaches_unread call files files' log log' steps steps'
      (faults.BadSlot slot) command bad broken failed synced text few =
      let lowest = bad slot refl in
      none_found (command, lowest) refl text
      (λ list stands. absurd (none_bad (B.image log) list slot lowest.small stands lowest.bad)) few
  reaches_unread call files files' log log' steps steps' faults.Broken command bad broken failed synced text few =
      none_found (command, broken refl) refl text (λ list stands. absurd ((broken refl).no_list list stands)) few
  reaches_unread call files files' log log' steps steps' faults.LogFault command bad broken failed synced text few =
      none_found (inl refl, failed refl) refl text (λ list stands. leaves_found B log log' list
      (faults.LogFault ≡ faults.LogFault) 8 (λ is. refl) refl stands synced) few

  -- ---- the roll is filed

  module _ (files files' : E) (log mid log' : D) (steps mid_steps steps' : ℕ) (found : List Record)
      (stands : StandsFor found (B.image log)) (first : Tail)
      (at : IsTailOf (B.image mid) (B.in_flight mid) first found) (synced : LeavesFromSync B ⊥ log mid (IsAsHeld B log))
      (few : mid_steps ≤ steps + 258)
      (read_text : B.printed mid ≡ B.printed log) (text : B.printed log' ≡ B.printed mid) (told told_files : Type 0)
      (is_told : told) (is_told_files : told_files) where
    same_text : B.printed log' ≡ B.printed log ++ []
    same_text = text ∙ (read_text ∙ sym (append-nil (B.printed log)))

    -- what the filing of these leaves of the one list that the log stands for
    moments_on : (filed : List Record) (status : ℕ) → LeavesSome B told mid log' first filed → (list : List Record)
        → StandsFor list (B.image log)
        → LeavesFromSync B (status ≡ 8) log log' (λ image left_text. StandsForSome list filed image)
    moments_on filed status moments list now =
        let same = one_list (B.image log) list found now stands in
        goes_on B (IsAsHeld B log) (λ image left_text. StandsForSome list filed image) ⊥ (status ≡ 8) log mid log'
        (λ no. no) (held_stands B log list filed now) synced
        (subst (λ (l : List Record). LeavesOnly B mid log' (λ image left_text. StandsForSome l filed image)) (sym same)
        (moments is_told found at))

    module _ (end : FileEnd) (last : Tail) (filing : FilesRoll B told told_files mid log' first last (F.rest files 1)
        (F.rest files' 1) end mid_steps steps') where
      left_on : (status : ℕ) (list : List Record) → StandsFor list (B.image log)
          → LeavesLog B list filing.filed log log' status
      left_on status list now = record {
        moments = moments_on filing.filed status filing.to.moments list now;
        stands = λ not. subst (λ (l : List Record). StandsFor (last_ones 256 (l ++ filing.filed)) (B.image log'))
            (sym (one_list (B.image log) list found now stands)) (last.last, tail.ready.ends);
        settled = λ not. tail.ready.still;
      }
        where
          tail : IsTailOf (B.image log') (B.in_flight log') last (found ++ filing.filed)
          tail = filing.to.stands is_told found at

      up_to : FilesUpTo (Some File) (B.image log) (F.rest files 1) (F.rest files' 1) end found filing.filed
      up_to = record {
        command = refl;
        stands = stands;
        of = subst (λ (n : Option Record). IsFiledOf n (F.rest files 1) (F.rest files' 1) filing.filed) (sym at.newest)
            (filing.of is_told_files);
        last = last.newest;
        ends = subst (λ (n : Option Record). EndsAs end n (F.rest files 1) (F.rest files' 1) filing.filed last.newest)
            (sym at.newest) (filing.ends is_told_files);
        told = filing.told;
      }

      reaches_filed : (course : Ended) → MayEnd (Some File) (B.image log) (F.rest files 1) (F.rest files' 1)
          (Rose (F.faults files 1) (F.faults files' 1)) (Rose (B.faults log) (B.faults log')) course found filing.filed
          → shown_of course found ≡ [] → CallReachesLine F B (Some File) files files' log log' steps steps' course
      reaches_filed course may none = record {
        course = course;
        found = found;
        filed = filing.filed;
        may = may;
        stands = inl (record {
          ended_is = refl;
          shown = λ prints. same_text ∙ ap (λ (t : List ℕ). B.printed log ++ t) (sym none);
        });
        leaves = λ file list now. left_on (status_of course) list now;
        few = λ file. omega (arith, few, filing.few);
      }

    in_roll : (last : Option Record) (place : ℕ) (filed : List Record) → EndsAs (ends.OtherTaxi place) (newest_of found)
        (F.rest files 1) (F.rest files' 1) filed last → EndsAt (newest_of found) (F.rest files 1) filed last place
    in_roll last place filed (taken, roll_is, h) = subst (λ (r : List ℕ). EndsAt (newest_of found) r filed last place)
        (sym roll_is) (ends_in_roll (newest_of found) last taken (F.rest files' 1) filed place h)

    pub reaches_end : (end : FileEnd) (last : Tail) → FilesRoll B told told_files mid log' first last (F.rest files 1)
        (F.rest files' 1) end mid_steps steps' → (end ≡ ends.ReadFault → Rose (F.faults files 1) (F.faults files' 1))
        → CallReachesLine F B (Some File) files files' log log' steps steps' (filing_end end)
    reaches_end (ends.Filed count) last filing failed =
        reaches_filed (ends.Filed count) last filing (Filed count) (up_to (ends.Filed count) last filing) refl
    reaches_end (ends.OtherTaxi place) last filing failed =
        let up = up_to (ends.OtherTaxi place) last filing in
        reaches_filed (ends.OtherTaxi place) last filing (OtherTaxi place)
        (up, (up.last, in_roll up.last place filing.filed up.ends)) refl
    reaches_end ends.TooLong last filing failed =
        reaches_filed ends.TooLong last filing TooLong (up_to ends.TooLong last filing) refl
    reaches_end ends.ReadFault last filing failed =
        reaches_filed ends.ReadFault last filing ReadFault (up_to ends.ReadFault last filing, failed refl) refl

    -- the board failed amid it
    pub reaches_failed : FailsInRoll B told told_files mid log' first (F.rest files 1)
        (F.rest files' 1) mid_steps steps' → Rose (B.faults log) (B.faults log')
        → CallReachesLine F B (Some File) files files' log log' steps steps' BoardFault
    reaches_failed fails failed = record {
      course = BoardFault;
      found = found;
      filed = fails.filed;
      may = (
        inr (
          stands,
          subst (λ (n : Option Record). IsFiledOf n (F.rest files 1) (F.rest files' 1) fails.filed) (sym at.newest)
              (fails.of is_told_files),
        ),
        failed,
      );
      stands = inl (record { ended_is = refl; shown = λ prints. same_text });
      leaves = λ file list now. record {
        moments = moments_on fails.filed 8 fails.moments list now;
        stands = λ not. absurd (not refl);
        settled = λ not. absurd (not refl);
      };
      few = λ file. omega (arith, few, fails.few);
    }

  -- ---- the log is shown

  module _ (files : E) (log mid log' : D) (steps steps' : ℕ) (found : List Record)
      (stands : StandsFor found (B.image log)) (read_text : B.printed mid ≡ B.printed log) where
    not_file : ◌≡◌ {A = Option Call} (Some Show) (Some File) → ⊥
    not_file e = absurd cc

    pub reaches_shown : (B.tells_text → B.printed log' ≡ B.printed mid ++ texts_of found)
        → CallReachesLine F B (Some Show) files files log log' steps steps' Shown
    reaches_shown shown = record {
      course = Shown;
      found = found;
      filed = [];
      may = (refl, stands);
      stands = inl
          (record { ended_is = refl; shown = λ told. shown told ∙ ap (λ (t : List ℕ). t ++ texts_of found) read_text });
      leaves = λ file. absurd (not_file file);
      few = λ file. absurd (not_file file);
    }

    pub reaches_cut : (B.tells_text → Begins (B.printed mid) (B.printed log') (texts_of found)) → Rose (B.faults log)
        (B.faults log') → CallReachesLine F B (Some Show) files files log log' steps steps' BoardFault
    reaches_cut begun failed = record {
      course = Shown;
      found = found;
      filed = [];
      may = (refl, stands);
      stands = inr (record {
        ended_is = refl;
        failed = failed;
        begun = λ told. subst (λ (t : List ℕ). Begins t (B.printed log') (texts_of found)) read_text (begun told);
      });
      leaves = λ file. absurd (not_file file);
      few = λ file. absurd (not_file file);
    }

  -- ---- the words are refused

  no_command : (call : Option Call) (command : Call) → call ≡ None → call ≡ Some command → ⊥
  no_command call command e f = absurd cc

  pub reaches_refused : (call : Option Call) (files : E) (log : D) (steps : ℕ) → call ≡ None
      → CallReachesLine F B call files files log log steps steps BadWords
  reaches_refused call files log steps none = record {
    course = BadWords;
    found = [];
    filed = [];
    may = none;
    stands = inl (record { ended_is = refl; shown = λ told. sym (append-nil (B.printed log)) });
    leaves = λ file. absurd (no_command call File none file);
    few = λ file. omega arith;
  }
