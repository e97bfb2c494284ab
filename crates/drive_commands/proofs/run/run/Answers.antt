use Rattle.{std.{specs.Prelude.{IsErrOf}, proofs.Common.{⊎_elim}}, drive_source.proofs.Laws.{begins_going}}
use Rattle.std.proofs.Common.{[], ℕ, ◌∙◌, ◌≡◌, ◌≢◌, Err, List, Ok, Result, ap, arith, inl, inr, refl, subst, sym}
use Rattle.{meter_run.{specs.Runs.{EndsRun}, proofs.Laws.{keeps_read}}, store_commands.proofs.Laws.{not_memory-barred}}
use Rattle.call_ends.proofs.Laws.{as_found, as_refused, goes-all, goes-none, no_fault, same_fault, stops-with}
use Rattle.drive_commands.specs.Common.{Durable, Ended, IsSettingOf, IsTablesOf, OpensWith, RunFault, Seal, TableParts}
use Rattle.drive_commands.specs.{Common.{status_of}, Run.{Start, run_command, setting_in, start_over, tables_in}}
use Rattle.drive_commands.specs.{DriveEnds.{ended_by}, RunSteps.{RunReachesLine}}
use Rattle.drive_commands.proofs.{RunAnswers.{carries-stopped, course-barred, course-not_begun}, RunStarts.{start_from}}
use Rattle.drive_commands.proofs.{RunEnds.{ran-comes, ran-writes}, TariffDrives.{board_fault-ran, read_fault-ran}}
use Rattle.call_ends.specs.declared.ending.Ended.TheVariants as ended
use Rattle.meter_run.specs.declared.fault.RunFault.TheVariants as faults
use Rattle.drive_commands.proofs.run.run.Goals as goal

-- the run of a drive takes no memory
not_memory-ran : (ran : Result (Unit {0}) RunFault) → ended_by ran ≢ ended.NoMemory
not_memory-ran (Ok done) = λ e. absurd cc
not_memory-ran (Err faults.ReadFault) = λ e. absurd cc
not_memory-ran (Err faults.BoardFault) = λ e. absurd cc
not_memory-ran (Err (faults.BadDrive line)) = λ e. absurd cc
not_memory-ran (Err faults.TooLong) = λ e. absurd cc

two-one : (n : ℕ) → n ≡ 2 → n ≢ 1
two-one n e = λ f. omega arith

one-two : (n : ℕ) → n ≡ 1 → n ≢ 2
one-two n e = λ f. omega arith

-- there is no sealed store
pub returns-in-Err-clause-runs : goal.returns-in-Err-clause-runs
returns-in-Err-clause-runs g c = λ tells told.
    let files = c.args.files.now in
    let opened = c.open_sealed.ensures in
    let board = λ (f : IsErrOf c.open_sealed.result ended.BoardFault).
    same_fault c.open_sealed.result c.in-Err.why ended.BoardFault c.in-Err.is f in
    course-barred g.F.Files g.B.Printer files files c.args.board.now c.open_sealed.new.board refl
    (IsErrOf c.open_sealed.result ended.BoardFault) opened.opens.reads (opened.opens.synced told) c.in-Err.why
    c.in-Err.ensures.barred
    (λ good. ap (λ (r : Result (Durable × Seal) Ended). start_over r (g.F.Files.rest files 1))
    (as_refused c.open_sealed.result _ c.in-Err.why ended.BoardFault c.in-Err.is good (opened.exact told)))
    (λ f. opened.opens.cause (c.in-Err.is ∙ ap Err f)) board
    (λ good. opened.opens.settled told (λ f. good (board f))) (λ good. opened.opens.same (λ f. good (board f)))

pub returns-in-Err-clause-carries : goal.returns-in-Err-clause-carries
returns-in-Err-clause-carries g c =
    carries-stopped g.F.Files g.B.Printer {fails = IsErrOf c.open_sealed.result ended.BoardFault}
    (λ f. same_fault c.open_sealed.result c.in-Err.why ended.BoardFault c.in-Err.is f)
    (λ e. c.in-Err.is ∙ ap Err e) c.open_sealed.ensures.opens refl
    (goes-all (goes-none c.args.files.now) c.in-Err.ensures.not_read) (omega (arith, c.open_sealed.ensures.steps))
    (λ known. returns-in-Err-clause-runs g c known.0 known.1)

-- the run doesn't begin
pub returns-in-Err-begin-clause-runs : goal.returns-in-Err-begin-clause-runs
returns-in-Err-begin-clause-runs g c = λ tells told.
    let opened = c.open_sealed.ensures in
    let store = c.in-Ok.store in
    let went = no_fault c.open_sealed.result store ended.BoardFault c.in-Ok.is in
    course-not_begun g.F.Files g.B.Printer c.args.files.now c.begin.new.files c.args.board.now c.open_sealed.new.board
    (c.begin.ensures.reads.others 2 (two-one 2 refl)) (IsErrOf c.open_sealed.result ended.BoardFault) opened.opens.reads
    (opened.opens.synced told) c.in-Err-begin.why
    (c.in-Err-begin.ensures.refused (g.B.Printer.image c.args.board.now) tells
    (as_found c.open_sealed.result _ store ended.BoardFault c.in-Ok.is (opened.exact told)))
    (λ f. absurd (went f)) (λ good. opened.opens.settled told went) (λ good. opened.opens.same went)

pub returns-in-Err-begin-clause-carries : goal.returns-in-Err-begin-clause-carries
returns-in-Err-begin-clause-carries g c =
    let opened = c.open_sealed.ensures in
    let store = c.in-Ok.store in
    let before = c.begin.ensures in
    carries-stopped g.F.Files g.B.Printer {fails = IsErrOf c.open_sealed.result ended.BoardFault}
    (λ f. absurd (no_fault c.open_sealed.result store ended.BoardFault c.in-Ok.is f))
    (λ e. absurd (before.reads.not_board (c.in-Err-begin.is ∙ ap Err e))) opened.opens
    (before.reads.others 2 (two-one 2 refl))
    (stops-with 1 [] (goes-none c.args.files.now) before.reads (omega arith) (inl refl)
    (λ told. inl (
      refl,
      (
        refl,
        record {
          store = store;
          is = as_found c.open_sealed.result _ store ended.BoardFault c.in-Ok.is (opened.exact told);
        },
      ),
    )) c.in-Err-begin.is) (omega (arith, opened.steps, before.steps))
    (λ known. returns-in-Err-begin-clause-runs g c known.0 known.1)

-- the drive is carried out
pub returns-clause-runs : goal.returns-clause-runs
returns-clause-runs g c = λ tells told.
    let rest = g.F.Files.rest in
    let files = c.args.files.now in
    let old = c.args.board.now in
    let mid = c.open_sealed.new.board in
    let new = c.run_events-ran.new.board in
    let opened = c.open_sealed.ensures in
    let store = c.in-Ok.store in
    let before = c.begin.ensures in
    let begun = c.in-Ok-begin.ensures.begun tells in
    let settled = c.in-Ok.ensures.found told in
    let went : ¬ (IsErrOf c.open_sealed.result ended.BoardFault) =
    no_fault c.open_sealed.result store ended.BoardFault c.in-Ok.is in
    let s : Start = record { durable = store.0; seal = store.1; tree = begun.tree } in
    let starts = start_from (g.B.Printer.image old) (rest files 1) store.0 store.1
    (as_found c.open_sealed.result _ store ended.BoardFault c.in-Ok.is (opened.exact told)) _ refl ∙ begun.starts in
    let is : IsSettingOf (setting_in s) (tables_in s) s.seal = record {
      tariff = record {
        tree = s.tree;
        compiled = subst (IsTablesOf s.tree) begun.value begun.compiled;
        parts = refl;
        constant = refl;
      };
      secured = record { constant = refl; mode = refl; hold_time = refl; offsets = refl };
    } in
    let opens : OpensWith g.B.Printer c.in-Ok-begin.tables mid s.durable =
    record { place = settled.0; settled = settled.1; fits = begun.fits } in
    let of_tables : EndsRun g.B.Printer (tables_in s) s.seal mid new (rest c.begin.new.files 2)
    (rest c.run_events-ran.new.files 2) c.run_events-ran.result =
    subst (λ (p : TableParts). EndsRun g.B.Printer p s.seal mid new (rest c.begin.new.files 2)
    (rest c.run_events-ran.new.files 2) c.run_events-ran.result) begun.value (c.run_events-ran.ensures.ends tells) in
    let ends : EndsRun g.B.Printer (tables_in s) s.seal mid new (rest files 2)
    (rest c.run_events-ran.new.files 2) c.run_events-ran.result =
    subst (λ (drive : List ℕ). EndsRun g.B.Printer (tables_in s) s.seal mid new drive
    (rest c.run_events-ran.new.files 2) c.run_events-ran.result) (before.reads.others 2 (two-one 2 refl)) of_tables in
    let read : rest c.run_events-ran.new.files 1 ≡ [] =
    c.run_events-ran.ensures.others 1 (one-two 1 refl)
    ∙ (rw c.in-Ok-begin.is at before.reads).ended tells in
    subst (λ (end : Ended). RunReachesLine g.F.Files g.B.Printer files c.run_events-ran.new.files old new end)
    (sym c.ended_of.ensures)
    (ran-comes g.F.Files g.B.Printer files c.run_events-ran.new.files old mid new s starts told is
    (subst (λ (p : TableParts). OpensWith g.B.Printer p mid s.durable) begun.value opens)
    (IsErrOf c.open_sealed.result ended.BoardFault) went (opened.opens.synced told) (opened.opens.settled told went)
    (opened.opens.same went) opened.opens.reads.text
    (keeps_read g.B.Printer old mid opened.opens.reads (opened.opens.same went))
    (c.run_events-ran.ensures.beside told) read c.run_events-ran.result ends
    (λ e. omega (
      arith,
      c.run_events-ran.ensures.read_fault e,
      before.reads.counts (no_fault c.begin.result c.in-Ok-begin.tables ended.ReadFault c.in-Ok-begin.is) 2,
    ))
    (λ e. omega (arith, c.run_events-ran.ensures.board_fault.rose e, opened.opens.count went)))

pub returns-clause-carries : goal.returns-clause-carries
returns-clause-carries g c =
    let opened = c.open_sealed.ensures in
    let store = c.in-Ok.store in
    let before = c.begin.ensures in
    let ran = c.run_events-ran.ensures in
    let went = no_fault c.open_sealed.result store ended.BoardFault c.in-Ok.is in
    let read_all =
    before.reads.counts (no_fault c.begin.result c.in-Ok-begin.tables ended.ReadFault c.in-Ok-begin.is) in
    let wrote = subst (λ (end : Ended). run_command.writes (status_of end)) (sym c.ended_of.ensures)
    (ran-writes c.run_events-ran.result) in
    record {
      ends = λ known. (returns-clause-runs g c known.0 known.1).comes;
      steps = λ later le. let h = ran.steps in record {
        taken = h.taken;
        few = h.few;
        split = λ tells. record { bytes = sym (before.reads.others 2 (two-one 2 refl)) ∙ (h.split tells).bytes };
        bound = omega (arith, le, h.bound, before.steps, opened.steps);
      };
      read_fault = λ e. record {
        word = 2;
        reads = inr refl;
        rose = omega (
          arith,
          ran.read_fault (read_fault-ran c.run_events-ran.result (sym c.ended_of.ensures ∙ e)),
          read_all 2,
        );
        behind = λ other lt. ran.others other (λ is. absurd (omega (arith, lt, is)))
            ∙ before.reads.others other (λ is. absurd (omega (arith, lt, is)));
      };
      board_fault = λ e. omega (
        arith,
        ran.board_fault.rose (board_fault-ran c.run_events-ran.result (sym c.ended_of.ensures ∙ e)),
        opened.opens.count went,
      );
      others = λ word not. ran.others word (λ e. not (inr e)) ∙ before.reads.others word (λ e. not (inl e));
      unread = λ known word never.
          let found = as_found c.open_sealed.result _ store ended.BoardFault c.in-Ok.is (opened.exact known.1) in
          let begun = c.in-Ok-begin.ensures.begun known.0 in
          ran.others word (λ e. never [] (inr (
            e,
            record {
              start = record { durable = store.0; seal = store.1; tree = begun.tree };
              begins = start_from (g.B.Printer.image c.args.board.now) (g.F.Files.rest c.args.files.now 1) store.0
                  store.1 found _ refl ∙ begun.starts;
              going = begins_going;
            },
          )))
          ∙ before.reads.others word
          (λ e. never [] (inl (e, (refl, record { store = store; is = found }))));
      count = λ good. ran.board_fault.kept (λ f. good (c.ended_of.ensures ∙ ap ended_by f)) ∙ opened.opens.count went;
      counts = λ read good word.
          (ran.counts word).kept (λ failed. ⊎_elim (λ f. read (c.ended_of.ensures ∙ ap ended_by f))
          (λ f. good (c.ended_of.ensures ∙ ap ended_by f)) failed)
          ∙ read_all word;
      kept = λ shut. absurd (shut tt);
      unwritten = λ not. absurd (not wrote);
      same = λ not. absurd (not wrote);
      fails = λ status w. inr (inr (inr refl));
      at_rest = λ known told opened. (returns-clause-runs g c known.0 told).settled;
      looks = λ looks. absurd (looks.unwritten 8 (inr (inr (inr refl))));
    }

-- ---- memory ran out

pub returns-in-Err-clause-memory : goal.returns-in-Err-clause-memory
returns-in-Err-clause-memory g c = λ tells told e. absurd (not_memory-barred c.in-Err.why c.in-Err.ensures.barred e)

pub returns-in-Err-begin-clause-memory : goal.returns-in-Err-begin-clause-memory
returns-in-Err-begin-clause-memory g c = λ tells told e. record {
  store = c.in-Ok.store;
  is = as_found c.open_sealed.result _ c.in-Ok.store ended.BoardFault c.in-Ok.is (c.open_sealed.ensures.exact told);
  may = c.begin.ensures.memory tells (c.in-Err-begin.is ∙ ap Err e);
}

pub returns-clause-memory : goal.returns-clause-memory
returns-clause-memory g c = λ tells told e.
    absurd (not_memory-ran c.run_events-ran.result (sym c.ended_of.ensures ∙ e))
