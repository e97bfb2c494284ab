use Rattle.std.proofs.Common.{◌∙◌, arith, refl, true}
use Rattle.outside.proofs.Laws.{keeps_none, keeps_print, keeps_then}
use Rattle.store_commands.proofs.OffsetLines.{begins_at, begins_end, printed_all, printed_more, printed_none}
use Rattle.store_commands.proofs.offsets.print_pairs.Goals as goal

pub loop-pair-init : goal.loop-pair-init
loop-pair-init g c = record {
  printed = λ told. printed_none (g.B.Printer.printed c.args.board.now);
  faults = refl;
  store = keeps_none g.B.Printer c.args.board.now;
  steps = omega arith;
}

pub loop-pair-preserved : goal.loop-pair-preserved
loop-pair-preserved g c =
    let printed = g.B.Printer.printed in
    record {
      printed = λ told.
          printed_more (printed c.args.board.now) (printed c.loop-pair.board)
          (printed c.print.new.self) c.as_slice.result.now c.args.pairs.now c.loop-pair.pair-index _
          c.loop-pair-test.true (c.as_slice.ensures.value ∙ c.line_of-line.ensures.text)
          (c.loop-pair.invariant.printed told) (c.in_ok-print.ensures.whole told);
      faults = c.in_ok-print.ensures.cause.kept (refl {a = true}) ∙ c.loop-pair.invariant.faults;
      store = keeps_then g.B.Printer c.args.board.now c.loop-pair.board c.print.new.self c.loop-pair.invariant.store
          (keeps_print g.B.Printer c.loop-pair.board c.print.new.self _ c.print.ensures.image c.print.ensures.flight
          c.print.ensures.time);
      steps = omega (arith, c.loop-pair.invariant.steps, c.print.ensures.step);
    }

pub returns-in_err-print-clause-begun : goal.returns-in_err-print-clause-begun
returns-in_err-print-clause-begun g c = λ told.
    let printed = g.B.Printer.printed in
    begins_at (printed c.args.board.now) (printed c.loop-pair.board)
    (printed c.print.new.self) c.as_slice.result.now c.args.pairs.now c.loop-pair.pair-index _
    c.loop-pair-test.true (c.as_slice.ensures.value ∙ c.line_of-line.ensures.text) (c.loop-pair.invariant.printed told)
    (c.print.ensures.begun told)

pub returns-in_err-print-clause-store : goal.returns-in_err-print-clause-store
returns-in_err-print-clause-store g c =
    keeps_then g.B.Printer c.args.board.now c.loop-pair.board c.print.new.self c.loop-pair.invariant.store (keeps_print
    g.B.Printer c.loop-pair.board c.print.new.self _ c.print.ensures.image c.print.ensures.flight c.print.ensures.time)

pub returns-clause-begun : goal.returns-clause-begun
returns-clause-begun g c = λ told.
    let printed = g.B.Printer.printed in
    begins_end (printed c.args.board.now) (printed c.loop-pair.board) c.args.pairs.now c.loop-pair.pair-index
    c.loop-pair-test.false (c.loop-pair.invariant.printed told)

pub returns-clause-whole : goal.returns-clause-whole
returns-clause-whole g c = λ told.
    let printed = g.B.Printer.printed in
    printed_all (printed c.args.board.now) (printed c.loop-pair.board) c.args.pairs.now c.loop-pair.pair-index
    c.loop-pair-test.false (c.loop-pair.invariant.printed told)
