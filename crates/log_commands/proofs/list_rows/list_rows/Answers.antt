use Rattle.std.proofs.{Common.{[], ◌∙◌, Some, ap, arith, inr, refl, sym}, lemmas.Bool.{false≢true}}
use Rattle.outside.proofs.Laws.{keeps_print, keeps_then, may_rise_more, rises_by, rises_not}
use Rattle.{receipt_reading.specs.declared.roll.RollEnd.TheVariants.{Whole}, log_commands.proofs.Causes.{rose_later}}
use Rattle.log_commands.specs.Common.{Rose}
use Rattle.log_commands.proofs.RowsEnds.{begun_none, breaks_off, listed_none, lists_on, ok_of, on_ok_of, reaches_broken}
use Rattle.log_commands.proofs.RowsEnds.{reaches_over, reaches_unread, rows_end_board, rows_end_read, rows_end_reads}
use Rattle.log_commands.proofs.list_rows.list_rows.Given as given
use Rattle.log_commands.proofs.list_rows.list_rows.Goals as goal

-- ---- the first reading, and the heading

pub returns-then-has_failed-clause-comes : goal.returns-then-has_failed-clause-comes
returns-then-has_failed-clause-comes g c = λ told.
    let failed = c.begin-roll.ensures.failed (c.has_failed.ensures.0 c.if-has_failed.true) in
    reaches_unread g.F.Files g.G.Printer c.args.files.now c.begin-roll.new.files c.args.log.now c.begin-roll.result
    c.args.steps.now told c.begin-roll.ensures.reads failed.0 failed.1

pub returns-then-is_err-clause-comes : goal.returns-then-is_err-clause-comes
returns-then-is_err-clause-comes g c = λ told.
    reaches_broken g.F.Files g.G.Printer c.args.files.now c.begin-roll.new.files c.args.log.now c.print.new.self
    c.begin-roll.result [] c.args.steps.now c.print.new.steps told c.begin-roll.ensures.reads
    (c.print.ensures.cause.failed (sym c.is_err.ensures.value ∙ c.if-is_err.true))
    (λ tells. begun_none (g.G.Printer.printed c.args.log.now) (g.G.Printer.printed c.print.new.self)
    c.as_slice.result.now (c.as_slice.ensures.value ∙ c.heading.ensures) (c.print.ensures.begun tells))
    (omega (arith, c.print.ensures.step))

pub loop-end-init : goal.loop-end-init
loop-end-init g c = record {
  listing = record {
    receipts = [];
    reading = c.begin-roll.ensures.reads;
    begun = c.begin-roll.ensures.begun
        (λ failed. false≢true (sym c.if-has_failed.false ∙ c.has_failed.ensures.1 failed));
    printed = λ tells. listed_none (g.G.Printer.printed c.args.log.now) (g.G.Printer.printed c.print.new.self)
        c.as_slice.result.now (c.as_slice.ensures.value ∙ c.heading.ensures)
        (on_ok_of c.print.result (sym c.is_err.ensures.value ∙ c.if-is_err.false) (c.print.ensures.whole tells));
    few = omega (arith, c.print.ensures.step);
  };
  keeps = keeps_print g.G.Printer c.args.log.now c.print.new.self c.as_slice.result.now c.print.ensures.image
      c.print.ensures.flight c.print.ensures.time;
  faults = c.print.ensures.cause.kept (ok_of c.print.result (sym c.is_err.ensures.value ∙ c.if-is_err.false));
}

-- ---- no more of the roll is read

pub returns-in-Err-clause-comes : goal.returns-in-Err-clause-comes
returns-in-Err-clause-comes g c = λ told.
    reaches_over g.F.Files g.G.Printer c.args.files.now c.loop-end.files c.next.new.files c.args.log.now c.loop-end.log
    c.loop-end.roll c.next.new.self c.in-Err.end c.ended_rows.result c.args.steps.now c.loop-end.steps told
    c.loop-end.invariant.listing c.in-Err.ensures.over c.in-Err.ensures.end c.next.ensures.left
    (λ was. (c.next.ensures.stays Whole was).0) c.ended_rows.ensures

pub returns-in-Err-clause-read_fault : goal.returns-in-Err-clause-read_fault
returns-in-Err-clause-read_fault g c = λ is.
    let listing = c.loop-end.invariant.listing in
    (c.in-Err.ensures.over c.args.files.now listing.receipts listing.reading).fault.rose
    (c.in-Err.ensures.end.0 ∙ ap Some (rows_end_read c.in-Err.end (sym c.ended_rows.ensures ∙ is)))

pub returns-in-Err-clause-reads : goal.returns-in-Err-clause-reads
returns-in-Err-clause-reads g c = λ word.
    let listing = c.loop-end.invariant.listing in
    may_rise_more
    (λ failed. rw c.ended_rows.ensures (rows_end_reads c.in-Err.end (sym c.in-Err.ensures.end.0 ∙ failed)))
    ((c.in-Err.ensures.over c.args.files.now listing.receipts listing.reading).counts word)

pub returns-in-Err-clause-board_fault : goal.returns-in-Err-clause-board_fault
returns-in-Err-clause-board_fault g c =
    rises_not (λ is. rows_end_board c.in-Err.end (sym c.ended_rows.ensures ∙ is)) c.loop-end.invariant.faults

pub returns-in-Err-clause-keeps : goal.returns-in-Err-clause-keeps
returns-in-Err-clause-keeps g c = c.loop-end.invariant.keeps

pub returns-in-Err-clause-others : goal.returns-in-Err-clause-others
returns-in-Err-clause-others g c = λ word ne.
    let listing = c.loop-end.invariant.listing in
    (c.in-Err.ensures.over c.args.files.now listing.receipts listing.reading).others word ne

-- ---- a row

-- the board failed at it
failed : (g : given.Over) (c : goal.Then-is_err-2 g)
    → Rose (g.G.Printer.faults c.args.log.now) (g.G.Printer.faults c.print-in-Ok.new.self)
failed g c =
    rose_later _ _ _ c.loop-end.invariant.faults
    (c.print-in-Ok.ensures.cause.failed (sym c.is_err-in-Ok.ensures.value ∙ c.if-is_err-2.true))

pub returns-then-is_err-2-clause-comes : goal.returns-then-is_err-2-clause-comes
returns-then-is_err-2-clause-comes g c = λ told.
    breaks_off g.F.Files g.G.Printer c.args.files.now c.loop-end.files c.next.new.files c.args.log.now c.loop-end.log
    c.print-in-Ok.new.self c.loop-end.roll c.next.new.self c.in-Ok.receipt c.as_slice-in-Ok.result.now
    c.args.steps.now c.loop-end.steps c.print-in-Ok.new.steps told c.loop-end.invariant.listing c.in-Ok.ensures.found
    (c.as_slice-in-Ok.ensures.value ∙ c.row_of.ensures) c.print-in-Ok.ensures.begun
    (failed g c) c.print-in-Ok.ensures.step

pub returns-then-is_err-2-clause-reads : goal.returns-then-is_err-2-clause-reads
returns-then-is_err-2-clause-reads g c = λ word.
    let listing = c.loop-end.invariant.listing in
    may_rise_more (λ _. inr (inr refl))
    ((c.in-Ok.ensures.found c.args.files.now listing.receipts listing.reading).counts word)

pub returns-then-is_err-2-clause-board_fault : goal.returns-then-is_err-2-clause-board_fault
returns-then-is_err-2-clause-board_fault g c = rises_by refl (failed g c)

pub returns-then-is_err-2-clause-keeps : goal.returns-then-is_err-2-clause-keeps
returns-then-is_err-2-clause-keeps g c =
    keeps_then g.G.Printer c.args.log.now c.loop-end.log c.print-in-Ok.new.self c.loop-end.invariant.keeps
    (keeps_print g.G.Printer c.loop-end.log c.print-in-Ok.new.self c.as_slice-in-Ok.result.now
    c.print-in-Ok.ensures.image c.print-in-Ok.ensures.flight c.print-in-Ok.ensures.time)

pub returns-then-is_err-2-clause-others : goal.returns-then-is_err-2-clause-others
returns-then-is_err-2-clause-others g c = λ word ne.
    let listing = c.loop-end.invariant.listing in
    (c.in-Ok.ensures.found c.args.files.now listing.receipts listing.reading).others word ne

pub loop-end-smaller : goal.loop-end-smaller
loop-end-smaller g c = c.in-Ok.ensures.fewer

pub loop-end-preserved : goal.loop-end-preserved
loop-end-preserved g c = record {
  listing = lists_on g.F.Files g.G.Printer c.args.files.now c.loop-end.files c.next.new.files c.args.log.now
      c.loop-end.log c.print-in-Ok.new.self c.loop-end.roll c.next.new.self c.in-Ok.receipt
      c.as_slice-in-Ok.result.now c.args.steps.now c.loop-end.steps c.print-in-Ok.new.steps
      c.loop-end.invariant.listing c.in-Ok.ensures.found c.next.ensures.left
      (λ was. (c.next.ensures.stays Whole was).0)
      (c.as_slice-in-Ok.ensures.value ∙ c.row_of.ensures)
      (λ tells. on_ok_of c.print-in-Ok.result (sym c.is_err-in-Ok.ensures.value ∙ c.if-is_err-2.false)
      (c.print-in-Ok.ensures.whole tells))
      c.print-in-Ok.ensures.step;
  keeps = keeps_then g.G.Printer c.args.log.now c.loop-end.log c.print-in-Ok.new.self c.loop-end.invariant.keeps
      (keeps_print g.G.Printer c.loop-end.log c.print-in-Ok.new.self c.as_slice-in-Ok.result.now
      c.print-in-Ok.ensures.image c.print-in-Ok.ensures.flight c.print-in-Ok.ensures.time);
  faults = c.print-in-Ok.ensures.cause.kept
      (ok_of c.print-in-Ok.result (sym c.is_err-in-Ok.ensures.value ∙ c.if-is_err-2.false))
      ∙ c.loop-end.invariant.faults;
}
