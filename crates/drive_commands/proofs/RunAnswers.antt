-- The command `run`: what it answers, and what it leaves of the store.
use Rattle.std.proofs.Common.{[], ℕ, ◌++◌, ◌+◌, ◌∙◌, ◌∷◌, ◌≡◌, ◌≢◌, ◌≤◌, Err, List, Ok, Result, Some, ap, arith, get_or}
use Rattle.std.proofs.{Common.{inl, inr, length, refl, subst, sym}, lemmas.List.{append-nil, ext_get_or}}
use Rattle.outside.specs.{Runs.{IsAtRest as NothingFlies}, declared.files.Files.{Ghosts as FileGhosts}}
use Rattle.{outside.proofs.Laws.{begins_not}, slot_store.specs.Syncs.{IsAsHeld, ReadsOnly}}
use Rattle.{slot_store.proofs.Laws.{from_sync_as}, totals_record.specs.declared.change.Change.{Change}}
use Rattle.{totals_record.proofs.Laws.{changes_add_up}, call_ends.specs.Ending.{EndsOnDevices, IsRefusal}}
use Rattle.meter_run.{specs.Points.{HasEntries}, proofs.Laws.{keeps_read, receipts_have_their_entries-run}}
use Rattle.call_ends.{specs.{Course.{NoMemory}, LastLine.{refused_as}, Stream.{TakesBytes}}, proofs.Laws.{bytes-read}}
use Rattle.{call_ends.specs.Reads.{Follows}, store_commands.specs.Opened.{IsBarred, OnlyOpens}}
use Rattle.{store_commands.proofs.Laws.{none, owed-refused}, drive_commands.specs.Common.{texts}}
use Rattle.drive_commands.specs.Common.{Answer, Answered, Begins, BoardFailed, Carries, CommitsInTurn, Deed, Drive}
use Rattle.drive_commands.specs.Common.{Ended, Ghosts, HasState, IsCutOfDeeds, LeavesFromSync, Prints, ReadFailed, Rose}
use Rattle.drive_commands.specs.Common.{SameBut, after_deeds, changes_of, line_in, line_of, opening_in, status_of}
use Rattle.drive_commands.specs.Run.{IsCutOfCourse, IsCutOfRun, IsOfTotals, StandsAfterRun, Start, bytes_in, deeds_in}
use Rattle.drive_commands.specs.Run.{run_answer, run_command, setting_in, shown_in_run, start_at, start_of, tables_in}
use Rattle.drive_commands.{specs.RunSteps.{HasNotBegun, RunReachesLine}, proofs.RunCuts.{first_cut, last_cut}}
use Rattle.drive_commands.proofs.RunStarts.{start_stands}
use Rattle.call_ends.specs.declared.ending.Ended.TheVariants as ended

-- over no bytes a run does nothing
no_deeds : (s : Start) → deeds_in s [] ≡ []
no_deeds s = refl

-- the receipts of a run stand behind their entries
pub run_entries : (s : Start) (bytes : List ℕ) → HasEntries s.durable.number (deeds_in s bytes)
run_entries s bytes = receipts_have_their_entries-run (setting_in s) s.durable bytes

-- the bytes outside the pair of totals
pub same_outside : (old new : List ℕ) → new ≡ old → SameBut IsOfTotals old new
same_outside old new e =
    record { size = ap length e; rest = λ place outside. ap (λ (bytes : List ℕ). get_or bytes place 0) e }

pub outside_then : (old mid new : List ℕ) → SameBut IsOfTotals old mid → SameBut IsOfTotals mid new
    → SameBut IsOfTotals old new
outside_then old mid new first next = record {
  size = next.size ∙ first.size;
  rest = λ place outside. next.rest place outside ∙ first.rest place outside;
}

-- ---- before the drive

module _ (told : Type 0) (image printed tariff : List ℕ) where
  -- a cut while nothing was done yet
  pub found-held : (r : Result Start Ended) → start_of (opening_in image) tariff ≡ r → (bytes line i x : List ℕ)
      → i ≡ image → x ≡ printed → IsCutOfRun told image printed r bytes line i x
  found-held (Err why) e bytes line i x is text = (is, λ t. begins_not printed x line text)
  found-held (Ok s) e bytes line i x is text =
      let stands = start_stands image tariff s e in
      record {
        cut = first_cut (tables_in s) s.seal told s.durable printed (deeds_in s bytes ++ Prints line ∷ []) i x
            (subst (λ (l : List ℕ). HasState l s.durable) (sym is) stands.0) stands.1 (λ t. text);
        seal_stays = same_outside image i is;
      }

  -- and while the last line is printed, if nothing was done before
  pub found-line : (r : Result Start Ended) → start_of (opening_in image) tariff ≡ r → (bytes line i x : List ℕ)
      → ((s : Start) → r ≡ Ok s → bytes ≡ []) → i ≡ image
      → (told → Begins printed x line) → IsCutOfRun told image printed r bytes line i x
  found-line (Err why) e bytes line i x no_bytes is text = (is, text)
  found-line (Ok s) e bytes line i x no_bytes is text =
      let stands = start_stands image tariff s e in
      let nothing : deeds_in s bytes ≡ [] = ap (deeds_in s) (no_bytes s refl) ∙ no_deeds s in
      record {
        cut = subst (λ (deeds : List Deed). IsCutOfDeeds (tables_in s) s.seal told s.durable printed
            (deeds ++ Prints line ∷ []) i x) (sym nothing)
            (last_cut (tables_in s) s.seal told s.durable printed [] line i x
            (subst (λ (l : List ℕ). HasState l s.durable) (sym is) stands.0) stands.1
            (changes_add_up s.durable [])
            (subst (λ (deeds : List Deed). HasEntries s.durable.number deeds) nothing (run_entries s bytes))
            (λ t. subst (λ (p : List ℕ). Begins p x line) (sym (append-nil printed)) (text t)));
        seal_stays = same_outside image i is;
      }

  pub stands-still : (r : Result Start Ended) → start_of (opening_in image) tariff ≡ r → (bytes now : List ℕ)
      → ((s : Start) → r ≡ Ok s → bytes ≡ []) → now ≡ image → StandsAfterRun told image printed r bytes now
  stands-still (Err why) e bytes now no_bytes is = is
  stands-still (Ok s) e bytes now no_bytes is =
      let stands = start_stands image tariff s e in
      let nothing : deeds_in s bytes ≡ [] = ap (deeds_in s) (no_bytes s refl) ∙ no_deeds s in
      record {
        state = subst (λ (deeds : List Deed). HasState now (after_deeds s.durable deeds)) (sym nothing)
            (subst (λ (l : List ℕ). HasState l s.durable) (sym is) stands.0);
        seal_stays = same_outside image now is;
      }

module _ {E D L : Type 0} {N : ℕ} (F : FileGhosts E) (B : Ghosts D N L) (files files' : E) (old new : D) where
  abbrev Here : Ended → Type 0
  Here end = EndsOnDevices F B run_command files files' old new end

  -- nothing was written before the last line
  quiet : (end : Ended) (comes : Here end)
      → ((s : Start) → start_at F B files old ≡ Ok s → bytes_in comes.course (F.rest files 2) ≡ [])
      → (end ≢ ended.BoardFault → line_of end ≡ line_in run_command (F.rest files) (B.image old) comes.course)
      → (fails : Type 0) → (fails → status_of end ≡ 8) → ReadsOnly B old new
      → LeavesFromSync B fails old new (IsAsHeld B old)
      → (end ≢ ended.BoardFault → NothingFlies B new) → (end ≢ ended.BoardFault → B.image new ≡ B.image old)
      → RunReachesLine F B files files' old new end
  quiet end comes no_bytes line fails failed reads synced settled same =
      let image = B.image old in
      let printed = B.printed old in
      let tariff = F.rest files 1 in
      let bytes = bytes_in comes.course (F.rest files 2) in
      let last = line_in run_command (F.rest files) image comes.course in
      record {
        comes = comes;
        stands = λ good. stands-still B.tells_text image printed tariff (start_at F B files old) refl bytes
            (B.image new) no_bytes (same good);
        leaves = from_sync_as B (IsAsHeld B old) (IsCutOfCourse F B files old comes.course) fails
            (status_of end ≡ 8) old new failed
            (λ i x held. found-held B.tells_text image printed tariff
            (start_at F B files old) refl bytes last i x held.image held.text) synced;
        rests = λ good i x held text.
            let is : i ≡ image = ext_get_or 0 i (B.image new) held.bytes.size
            (λ place lt. held.bytes.rest place (settled good place)) ∙ same good in
            found-line B.tells_text image printed tariff (start_at F B files old) refl bytes last i x no_bytes is
            (λ t. subst (λ (l : List ℕ). Begins printed x l) (line good)
            (subst (λ (p : List ℕ). Begins p x (line_of end)) reads.text (text t)));
        settled = settled;
        unwritten = λ why e. bytes-read B old new reads;
        same = λ why e good. same good;
        turn = λ s e good.
            let nothing : changes_of (deeds_in s bytes) ≡ [] =
            ap (λ (l : List ℕ). changes_of (deeds_in s l)) (no_bytes s e) in
            subst (λ (l : List Change). CommitsInTurn B s.durable l old new) (sym nothing)
            (keeps_read B old new reads (same good));
      }

  module _ (untouched : F.rest files' 2 ≡ F.rest files 2) (fails : Type 0) (reads : ReadsOnly B old new)
      (synced : LeavesFromSync B fails old new (IsAsHeld B old)) where
    taken : TakesBytes (Some (Drive 2)) (F.rest files) (F.rest files') []
    taken = record { bytes = sym untouched }

    refused : (why : Ended) → (start_at F B files old ≡ Err why) → IsRefusal why → why ≢ ended.BoardFault
        → (fails → why ≡ ended.BoardFault)
        → NothingFlies B new → B.image new ≡ B.image old → RunReachesLine F B files files' old new why
    refused why e is good board settled same =
        quiet why
        (let answer : run_answer (start_at F B files old) (F.rest files 2) ≡ refused_as why =
        ap (λ (r : Result Start Ended). run_answer r (F.rest files 2)) e in
        let status : (run_answer (start_at F B files old) (F.rest files 2)).status ≡ status_of why =
        ap (λ (a : Answer). a.status) answer in
        record {
          course = Answered;
          may = record {
            whole = λ zero. absurd (is.not_0 (sym status ∙ zero));
            bad = λ three. absurd (is.not_3 (sym status ∙ three));
          };
          stands = inl (record {
            status_is = sym status;
            line_is = sym (ap (λ (a : Answer). a.line) answer);
            shown = λ t. none run_command (F.rest files) (F.rest files') (B.image old)
                (λ word. ⊥) ⊥ B.tells_text (B.printed old) (B.printed new) taken reads.text _
                (ap (λ (a : Answer). a.shown) answer);
          });
        })
        (λ s f. absurd (ok_err s why (start_at F B files old) f e))
        (λ not_board. sym (ap (λ (r : Result Start Ended). (run_answer r (F.rest files 2)).line) e))
        fails (λ f. absurd (good (board f))) reads synced (λ not_board. settled) (λ not_board. same)
      where
        ok_err : (s : Start) (w : Ended) (r : Result Start Ended) → r ≡ Ok s → r ≡ Err w → ⊥
        ok_err s w (Ok x) a b = cc
        ok_err s w (Err x) a b = cc

    -- what is owed of an end before the drive, if nothing was written
    abbrev pub IsOwed : Ended → Type 0
    IsOwed why = (fails → why ≡ ended.BoardFault) → (why ≢ ended.BoardFault → NothingFlies B new)
        → (why ≢ ended.BoardFault → B.image new ≡ B.image old) → RunReachesLine F B files files' old new why

    -- the run didn't begin
    pub course-not_begun : (why : Ended) → HasNotBegun (B.image old) (F.rest files 1)
        (Rose (F.faults files 1) (F.faults files' 1)) why → IsOwed why
    course-not_begun ended.ReadFault h board settled same =
        quiet ended.ReadFault
        (record {
          course = ReadFailed 1 [];
          may = record { reads = inl refl; comes = inl (refl, (refl, h.1)); failed = h.0; takes = taken };
          stands = inl (record {
            status_is = refl;
            line_is = refl;
            shown = λ t. none run_command (F.rest files) (F.rest files') (B.image old)
                (λ word. ⊥) ⊥ B.tells_text (B.printed old) (B.printed new) taken reads.text _
                (nothing (start_at F B files old));
          });
        })
        (λ s e. refl) (λ good. refl) fails (λ f. let is = board f in absurd cc) reads synced settled same
      where
        nothing : (r : Result Start Ended) → shown_in_run r [] ≡ []
        nothing (Err why) = refl
        nothing (Ok s) = ap (texts s.seal) (no_deeds s)
    course-not_begun ended.NoMemory h board settled same =
        quiet ended.NoMemory
        (record {
          course = NoMemory;
          may = record { taken = []; may = (refl, h); takes = taken };
          stands = inl (record {
            status_is = refl;
            line_is = refl;
            shown = λ t. none run_command (F.rest files) (F.rest files') (B.image old)
                (λ word. ⊥) ⊥ B.tells_text (B.printed old) (B.printed new) taken reads.text [] refl;
          });
        })
        (λ s e. refl) (λ good. refl) fails (λ f. let is = board f in absurd cc) reads synced settled same
    course-not_begun ended.BoardFault h board settled same = absurd h
    course-not_begun why h board settled same =
        let good : why ≢ ended.BoardFault = λ e. absurd cc in
        refused why h.0 h.1 good board (settled good) (same good)

    -- the board failed
    course-board : Rose (B.faults old) (B.faults new) → IsOwed ended.BoardFault
    course-board cause board settled same =
        quiet ended.BoardFault
        (record {
          course = BoardFailed [];
          may = record { failed = cause; takes = taken };
          stands = inr (record {
            ended_is = refl;
            failed = cause;
            started = λ t. begins_not (B.printed old) (B.printed new) _ reads.text;
          });
        })
        (λ s e. refl) (λ good. absurd (good refl)) fails (λ f. refl) reads synced settled same

    -- the store bars the run
    pub course-barred : (why : Ended) → IsBarred why → (why ≢ ended.BoardFault → start_at F B files old ≡ Err why)
        → (why ≡ ended.BoardFault → Rose (B.faults old) (B.faults new)) → IsOwed why
    course-barred =
        owed-refused (λ (w : Ended). start_at F B files old ≡ Err w) IsOwed (Rose (B.faults old) (B.faults new))
        (course-not_begun ended.NotSealed) (λ slot. course-not_begun (ended.BadSlot slot))
        (λ first second. course-not_begun (ended.SameNumber first second)) course-board

-- a run ended before its drive, behind the opening of the store
pub carries-stopped : {E D L : Type 0} {N : ℕ} (F : FileGhosts E) (B : Ghosts D N L) {files files' : E} {old new : D}
    {before now : ℕ} {why : Ended} {fails : Type 0} → (fails → why ≡ ended.BoardFault)
    → (why ≡ ended.BoardFault → fails) → OnlyOpens B fails old new → F.rest files' 2 ≡ F.rest files 2
    → Follows F run_command (B.image old) B.tells_image files files' why → now ≤ before + 22
    → (F.tells × B.tells_image → RunReachesLine F B files files' old new why)
    → Carries F B run_command files files' old new before now why
carries-stopped F B {old = old} {new = new} board back opens untouched reads few runs = record {
  ends = λ known. (runs known).comes;
  steps = λ later le. record {
    taken = [];
    few = omega arith;
    split = λ tells. record { bytes = sym untouched };
    bound = omega (arith, le, few);
  };
  read_fault = reads.read_fault;
  board_fault = λ e. opens.cause (back e);
  others = reads.others;
  unread = λ known. reads.unread known.1;
  count = λ good. opens.count (λ f. good (board f));
  counts = λ read good. reads.counts read;
  kept = λ shut. absurd (shut tt);
  unwritten = λ not. bytes-read B old new opens.reads;
  same = λ not good. opens.same (λ f. good (board f));
  fails = λ status w. inr (inr (inr refl));
  at_rest = λ known told opened good. opens.settled told (λ f. good (board f));
  looks = λ looks. absurd (looks.unwritten 8 (inr (inr (inr refl))));
}
