use Rattle.{std.specs.Prelude.{is_err}, log_commands.proofs.CallEnds.{reaches_cut, reaches_shown, reaches_unread}}
use Rattle.std.proofs.Common.{ℕ, ◌+◌, ◌-◌, ◌∙◌, ◌≡◌, Err, Some, ap, length, refl, rules, subst, sym}
use Rattle.log_commands.{specs.BeforeLastLine.{CallReachesLine}, proofs.top.show.Goals.{After-show_records}}
use Rattle.log_commands.specs.{Calls.{LeavesLogUnwritten}, Endings.{status_of, unread_end}, LogList.{AreInSlots}}
use Rattle.log_commands.specs.{Common.{Ended, IsAsHeld, Rose, Show}, declared.finding.FindFault.TheVariants.{LogFault}}
use Rattle.log_commands.proofs.{Causes.{rises_for, rises_ok, rose_later}, LastLines.{search_keeps, search_read}}
use Rattle.log_commands.proofs.{Counted.{found_shown}, NewestFound.{same_fault}}
use Rattle.log_commands.proofs.EndCases.{found_same, unread_board, unread_no_read, unread_shows, unread_sync}
use Rattle.log_commands.proofs.top.show.Given as given
use Rattle.log_commands.proofs.top.show.Goals as goal

-- ---- the log isn't read

pub returns-in-Err : goal.returns-in-Err
returns-in-Err g c = record {
  comes = λ told files.
      let B = g.G.Printer in
      let fault = c.in-Err.fault in
      subst (λ (end : Ended). CallReachesLine g.F.Files B (Some Show) files files c.args.log.now c.find_tail.new.log
      c.args.steps.now c.find_tail.new.steps end) (sym c.ended_unread.ensures)
      (reaches_unread g.F.Files B
      (Some Show) files files c.args.log.now c.find_tail.new.log c.args.steps.now c.find_tail.new.steps fault
      (Show, refl)
      (λ slot is. c.find_tail.ensures.bad slot (c.in-Err.is ∙ ap Err is) told)
      (λ is. c.find_tail.ensures.broken (c.in-Err.is ∙ ap Err is) told)
      (λ is. c.find_tail.ensures.cause.rose (c.in-Err.is ∙ ap Err is))
      (unread_sync B (IsAsHeld B c.args.log.now) c.args.log.now c.find_tail.new.log c.find_tail.result fault c.in-Err.is
      (c.find_tail.ensures.synced told)) c.find_tail.ensures.reads.text c.find_tail.ensures.steps);
  unread = λ e. unread_no_read c.in-Err.fault (sym c.ended_unread.ensures ∙ e);
  board_fault = rises_for _ _ (λ e. c.ended_unread.ensures ∙ ap unread_end
      (same_fault _ c.in-Err.fault LogFault (sym c.in-Err.is ∙ e)))
      (λ e. c.in-Err.is ∙ ap Err (unread_board c.in-Err.fault (sym c.ended_unread.ensures ∙ e)))
      c.find_tail.ensures.cause;
  has = rw c.ended_unread.ensures (unread_shows c.in-Err.fault);
  looks = search_read g.G.Printer c.args.log.now c.find_tail.new.log (status_of c.ended_unread.result)
      c.find_tail.ensures.reads
      (λ not. c.find_tail.ensures.same (λ e. not (ap status_of
      (c.ended_unread.ensures ∙ ap unread_end (same_fault _ c.in-Err.fault LogFault (sym c.in-Err.is ∙ e))))));
  steps = search rules;
}

-- ---- the records are printed

-- the image in which they are found
same : (g : given.Over) (c : After-show_records g)
    → g.G.Printer.image c.find_tail.new.log ≡ g.G.Printer.image c.args.log.now
same g c = found_same g.G.Printer (IsAsHeld g.G.Printer c.args.log.now) c.args.log.now c.find_tail.new.log
    c.find_tail.result c.in-Ok.tail c.in-Ok.is c.find_tail.ensures.same

-- the records that are printed are those of the list
held : (g : given.Over) (c : After-show_records g) (told : g.G.Printer.tells_image)
    → AreInSlots (g.G.Printer.image c.find_tail.new.log) (c.in-Ok.tail.last + 1 - c.count_of-count.result)
    (c.in-Ok.ensures.found told).0 × (length (c.in-Ok.ensures.found told).0 ≡ c.count_of-count.result)
held g c told = found_shown _ _ _ c.in-Ok.tail _ (c.in-Ok.ensures.found told).1 (same g c)
    (c.in-Ok.ensures.found told).2 _ c.count_of-count.ensures.count

-- how a cut leaves it
looks : (g : given.Over) (c : After-show_records g) (status : ℕ)
    → LeavesLogUnwritten g.G.Printer c.args.log.now c.show_records.new.log status
looks g c status =
    search_keeps g.G.Printer c.args.log.now c.find_tail.new.log c.show_records.new.log status
    (g.met.G.Printer.only_now c.find_tail.new.log) c.find_tail.ensures.reads (same g c) c.show_records.ensures.keeps

pub returns-in-Ok-show_records-clause-comes : goal.returns-in-Ok-show_records-clause-comes
returns-in-Ok-show_records-clause-comes g c = λ told files.
    let found = c.in-Ok.ensures.found told in
    let is = held g (goal.at.returns-in-Ok-show_records-clause-comes g c).After-show_records told in
    reaches_shown g.F.Files g.G.Printer files _ _ _ _ c.show_records.new.steps found.0 found.1
    c.find_tail.ensures.reads.text (λ text. c.in-Ok-show_records.ensures.shown told text found.0 is.0 is.1)

pub returns-in-Ok-show_records-clause-looks : goal.returns-in-Ok-show_records-clause-looks
returns-in-Ok-show_records-clause-looks g c =
    looks g (goal.at.returns-in-Ok-show_records-clause-looks g c).After-show_records 0

pub returns-in-Ok-show_records-clause-board_fault : goal.returns-in-Ok-show_records-clause-board_fault
returns-in-Ok-show_records-clause-board_fault g c = record {
  kept = λ _. c.in-Ok-show_records.ensures.cause.kept refl ∙ rises_ok _ _ c.find_tail.result c.in-Ok.tail LogFault
      c.in-Ok.is c.find_tail.ensures.cause;
  rose = λ e. absurd cc;
}

failed : (g : given.Over) (c : goal.In-Err-show_records g)
    → Rose (g.G.Printer.faults c.args.log.now) (g.G.Printer.faults c.show_records.new.log)
failed g c =
    rose_later _ _ _ (rises_ok _ _ c.find_tail.result c.in-Ok.tail LogFault c.in-Ok.is c.find_tail.ensures.cause)
    (c.show_records.ensures.cause.failed (ap is_err c.in-Err-show_records.is))

pub returns-in-Err-show_records-clause-comes : goal.returns-in-Err-show_records-clause-comes
returns-in-Err-show_records-clause-comes g c = λ told files.
    let found = c.in-Ok.ensures.found told in
    let is = held g (goal.at.returns-in-Err-show_records-clause-comes g c).After-show_records told in
    reaches_cut g.F.Files g.G.Printer files _ _ _ _ c.show_records.new.steps found.0 found.1
    c.find_tail.ensures.reads.text (λ text. c.show_records.ensures.begun told text found.0 is.0 is.1)
    (failed g c)

pub returns-in-Err-show_records-clause-board_fault : goal.returns-in-Err-show_records-clause-board_fault
returns-in-Err-show_records-clause-board_fault g c = record { kept = λ no. absurd (no refl); rose = λ _. failed g c }

pub returns-in-Err-show_records-clause-looks : goal.returns-in-Err-show_records-clause-looks
returns-in-Err-show_records-clause-looks g c =
    looks g (goal.at.returns-in-Err-show_records-clause-looks g c).After-show_records 8

-- ---- the status
