use Rattle.std.{specs.List.{flat_map, range_with_len}, proofs.Common.{◌++◌, ◌+◌, ◌≡◌, ◌≤◌}}
use Rattle.{outside.specs.Runs.{KeepsStore}, tariff_commands.specs.Common.{row_text}}
use Rattle.tariff_commands.proofs.tables.print_rows.Given as goal

-- the rows so far were printed
abbrev pub invariant-loop-i : goal.invariant-loop-i
invariant-loop-i g l = record {
  printed : g.B.Printer.tells_text
      → g.B.Printer.printed l.board ≡ g.B.Printer.printed l.fn.board ++ flat_map (row_text l.tables)
      (range_with_len 0 l.i);
  faults : g.B.Printer.faults l.board ≡ g.B.Printer.faults l.fn.board;
  store : KeepsStore g.B.Printer l.fn.board l.board;
  steps : l.steps ≤ l.fn.steps + l.i;
}
