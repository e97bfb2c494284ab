use Rattle.std.{specs.List.{flat_map, range_with_len}, proofs.Common.{ℕ, ◌++◌, ◌∙◌, ◌≡◌, List, ap, arith, refl, true}}
use Rattle.outside.proofs.Laws.{begins_whole, keeps_print, keeps_then}
use Rattle.call_ends.proofs.Laws.{begins-row, printed-row}
use Rattle.tariff_commands.specs.Common.{row_count, row_text, rows_text}
use Rattle.tariff_commands.proofs.tables.print_rows.Goals as goal

pub returns-in_err-print-clause-begun : goal.returns-in_err-print-clause-begun
returns-in_err-print-clause-begun g c = λ tells.
    let printed = g.B.Printer.printed in
    let row = row_text c.args.tables.now in
    begins-row row (row_count c.args.tables.now) c.loop-i.i (printed c.args.board.now)
    (printed c.loop-i.board) (printed c.print.new.self) c.as_slice.result.now
    (omega (arith, c.loop-i-test.true, c.rows-i-end.ensures))
    (◌∙◌ {c = row c.loop-i.i} c.as_slice.ensures.value c.row_of-line.ensures.text)
    (c.loop-i.invariant.printed tells) (c.print.ensures.begun tells)

pub loop-i-preserved : goal.loop-i-preserved
loop-i-preserved g c =
    let printed = g.B.Printer.printed in
    let row = row_text c.args.tables.now in
    let i = c.loop-i.i in
    record {
      printed = λ tells.
          printed-row row i (printed c.args.board.now) (printed c.loop-i.board) (printed c.print.new.self)
          c.as_slice.result.now (◌∙◌ {c = row i} c.as_slice.ensures.value c.row_of-line.ensures.text)
          (c.loop-i.invariant.printed tells) (c.in_ok-print.ensures.whole tells);
      faults = c.in_ok-print.ensures.cause.kept (refl {a = true}) ∙ c.loop-i.invariant.faults;
      store = keeps_then g.B.Printer c.args.board.now c.loop-i.board c.print.new.self c.loop-i.invariant.store
          (keeps_print g.B.Printer c.loop-i.board c.print.new.self _ c.print.ensures.image c.print.ensures.flight
          c.print.ensures.time);
      steps = omega (arith, c.loop-i.invariant.steps, c.print.ensures.step);
    }

-- at the end all rows were printed
whole_at : (row : ℕ → List ℕ) (n i : ℕ) (a b : List ℕ) → i ≡ n → b ≡ a ++ flat_map row (range_with_len 0 i)
    → b ≡ a ++ flat_map row (range_with_len 0 n)
whole_at row n i a b e h = h ∙ ap (λ (m : ℕ). a ++ flat_map row (range_with_len 0 m)) e

pub returns-clause-begun : goal.returns-clause-begun
returns-clause-begun g c = λ tells.
    let printed = g.B.Printer.printed in
    let all : c.loop-i.i ≡ row_count c.args.tables.now =
    omega (arith, c.loop-i-test.false, c.loop-i.auto.i-end, c.rows-i-end.ensures) in
    begins_whole (printed c.args.board.now) (printed c.loop-i.board) (rows_text c.args.tables.now)
    (whole_at (row_text c.args.tables.now) (row_count c.args.tables.now) c.loop-i.i (printed c.args.board.now)
    (printed c.loop-i.board) all (c.loop-i.invariant.printed tells))

pub returns-in_err-print-clause-store : goal.returns-in_err-print-clause-store
returns-in_err-print-clause-store g c =
    keeps_then g.B.Printer c.args.board.now c.loop-i.board c.print.new.self c.loop-i.invariant.store (keeps_print
    g.B.Printer c.loop-i.board c.print.new.self _ c.print.ensures.image c.print.ensures.flight c.print.ensures.time)
