use Rattle.std.{specs.Prelude.{is_err}, proofs.Common.{◌∙◌, Err, Ok, Some, ap, inr, refl, rules, subst, sym}}
use Rattle.log_commands.specs.{BeforeLastLine.{CallReachesLine}, Endings.{status_of, unread_end}}
use Rattle.log_commands.specs.{Common.{Ended, File, IsAsHeld, Rose}, declared.finding.FindFault.TheVariants.{LogFault}}
use Rattle.log_commands.proofs.{CallEnds.{reaches_end, reaches_failed, reaches_unread}, NewestFound.{same_fault}}
use Rattle.log_commands.proofs.Causes.{may_none, may_rise_for, rises_for, rises_ok, rose_later}
use Rattle.log_commands.proofs.EndCases.{fault_has, fault_takes, fault_writes, filing_files, filing_no_board}
use Rattle.log_commands.proofs.EndCases.{filing_read, filing_reads, filing_takes, filing_writes, found_sync}
use Rattle.log_commands.proofs.EndCases.{unread_board, unread_files, unread_no_read, unread_sync}
use Rattle.log_commands.proofs.LastLines.{search_read}
use Rattle.log_commands.proofs.top.file.Given as given
use Rattle.log_commands.proofs.top.file.Goals as goal

-- ---- the log isn't read

pub returns-in-Err : goal.returns-in-Err
returns-in-Err g c = record {
  comes = λ files_told told.
      let B = g.G.Printer in
      let fault = c.in-Err.fault in
      subst (λ (end : Ended). CallReachesLine g.F.Files B (Some File) c.args.files.now c.args.files.now c.args.log.now
      c.find_tail.new.log c.args.steps.now c.find_tail.new.steps end) (sym c.ended_unread.ensures)
      (reaches_unread g.F.Files B (Some File) c.args.files.now c.args.files.now c.args.log.now c.find_tail.new.log
      c.args.steps.now c.find_tail.new.steps fault (File, refl)
      (λ slot is. c.find_tail.ensures.bad slot (c.in-Err.is ∙ ap Err is) told)
      (λ is. c.find_tail.ensures.broken (c.in-Err.is ∙ ap Err is) told)
      (λ is. c.find_tail.ensures.cause.rose (c.in-Err.is ∙ ap Err is))
      (unread_sync B (IsAsHeld B c.args.log.now) c.args.log.now c.find_tail.new.log c.find_tail.result fault c.in-Err.is
      (c.find_tail.ensures.synced told)) c.find_tail.ensures.reads.text c.find_tail.ensures.steps);
  read_fault = λ e. absurd (unread_no_read c.in-Err.fault (sym c.ended_unread.ensures ∙ e));
  reads = λ word. may_none (g.F.Files.faults c.args.files.now word);
  board_fault = rises_for _ _ (λ e. c.ended_unread.ensures ∙ ap unread_end
      (same_fault _ c.in-Err.fault LogFault (sym c.in-Err.is ∙ e)))
      (λ e. c.in-Err.is ∙ ap Err (unread_board c.in-Err.fault (sym c.ended_unread.ensures ∙ e)))
      c.find_tail.ensures.cause;
  has = rw c.ended_unread.ensures (unread_files c.in-Err.fault);
  looks = λ writes.
      search_read g.G.Printer c.args.log.now c.find_tail.new.log (status_of c.ended_unread.result)
      c.find_tail.ensures.reads
      (λ not. c.find_tail.ensures.same (λ e. not (ap status_of
      (c.ended_unread.ensures ∙ ap unread_end (same_fault _ c.in-Err.fault LogFault (sym c.in-Err.is ∙ e))))));
  untaken = search rules;
  others = search rules;
}

-- ---- the roll is filed

pub returns-in-Ok-file_roll : goal.returns-in-Ok-file_roll
returns-in-Ok-file_roll g c = record {
  comes = λ files_told told.
      let B = g.G.Printer in
      let found = c.in-Ok.ensures.found told in
      subst (λ (end : Ended). CallReachesLine g.F.Files B (Some File) c.args.files.now c.file_roll.new.files
      c.args.log.now c.file_roll.new.log c.args.steps.now c.file_roll.new.steps end) (sym c.ended_filing.ensures)
      (reaches_end g.F.Files B c.args.files.now c.file_roll.new.files c.args.log.now c.find_tail.new.log
      c.file_roll.new.log c.args.steps.now c.find_tail.new.steps c.file_roll.new.steps found.0 found.1
      c.in-Ok.tail found.2
      (found_sync B (IsAsHeld B c.args.log.now) c.args.log.now c.find_tail.new.log c.find_tail.result c.in-Ok.tail
      c.in-Ok.is (c.find_tail.ensures.synced told)) c.find_tail.ensures.steps c.find_tail.ensures.reads.text
      c.file_roll.ensures.text
      g.G.Printer.tells_image g.F.Files.tells told files_told c.in-Ok-file_roll.end c.file_roll.new.tail
      c.in-Ok-file_roll.ensures.ok (λ is. c.file_roll.ensures.read_fault (c.in-Ok-file_roll.is ∙ ap Ok is)));
  read_fault = λ e. c.file_roll.ensures.read_fault
      (c.in-Ok-file_roll.is ∙ ap Ok (filing_read c.in-Ok-file_roll.end (sym c.ended_filing.ensures ∙ e)));
  reads = λ word.
      may_rise_for _ _ (λ failed. rw c.ended_filing.ensures (filing_reads c.in-Ok-file_roll.end failed))
      (c.in-Ok-file_roll.ensures.counts word);
  board_fault = record {
    kept = λ _. c.in-Ok-file_roll.ensures.cause.kept refl ∙ rises_ok _ _ c.find_tail.result c.in-Ok.tail LogFault
        c.in-Ok.is c.find_tail.ensures.cause;
    rose = λ e. absurd (filing_no_board c.in-Ok-file_roll.end (sym c.ended_filing.ensures ∙ e));
  };
  has = rw c.ended_filing.ensures (filing_files c.in-Ok-file_roll.end);
  looks = λ writes. absurd
      (filing_writes c.in-Ok-file_roll.end (status_of c.ended_filing.result)
      (ap status_of c.ended_filing.ensures) writes);
  untaken = λ takes. absurd
      (filing_takes c.in-Ok-file_roll.end (status_of c.ended_filing.result)
      (ap status_of c.ended_filing.ensures) takes);
  others = search rules;
}

-- ---- the board fails

failed : (g : given.Over) (c : goal.In-Err-file_roll g)
    → Rose (g.G.Printer.faults c.args.log.now) (g.G.Printer.faults c.file_roll.new.log)
failed g c =
    rose_later _ _ _ (rises_ok _ _ c.find_tail.result c.in-Ok.tail LogFault c.in-Ok.is c.find_tail.ensures.cause)
    (c.file_roll.ensures.cause.failed (ap is_err c.in-Err-file_roll.is))

pub returns-in-Err-file_roll : goal.returns-in-Err-file_roll
returns-in-Err-file_roll g c = record {
  comes = λ files_told told.
      let B = g.G.Printer in
      let found = c.in-Ok.ensures.found told in
      reaches_failed g.F.Files B c.args.files.now c.file_roll.new.files c.args.log.now c.find_tail.new.log
      c.file_roll.new.log c.args.steps.now c.find_tail.new.steps c.file_roll.new.steps found.0 found.1
      c.in-Ok.tail found.2
      (found_sync B (IsAsHeld B c.args.log.now) c.args.log.now c.find_tail.new.log c.find_tail.result c.in-Ok.tail
      c.in-Ok.is (c.find_tail.ensures.synced told)) c.find_tail.ensures.steps c.find_tail.ensures.reads.text
      c.file_roll.ensures.text
      g.G.Printer.tells_image g.F.Files.tells told files_told c.in-Err-file_roll.ensures.failed (failed g c);
  read_fault = search rules;
  reads = λ word. may_rise_for _ _ (λ _. inr (inr refl))
      (c.file_roll.ensures.counts word);
  board_fault = record { kept = λ no. absurd (no refl); rose = λ _. failed g c };
  has = fault_has (Some File) 8 refl;
  looks = λ writes. absurd (fault_writes writes);
  untaken = λ takes. absurd (fault_takes takes);
  others = search rules;
}

-- ---- the status
