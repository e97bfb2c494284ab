use Rattle.std.proofs.Common.{◌++◌, ◌+◌, ◌≡◌, ◌≤◌, take}
use Rattle.{offset_rules.specs.Texts.{offset_lines}, store_commands.specs.Common.{KeepsStore}}
use Rattle.store_commands.proofs.offsets.print_pairs.Given as goal

-- the lines of the pairs so far were printed
abbrev pub invariant-loop-pair : goal.invariant-loop-pair
invariant-loop-pair g l = record {
  printed : g.B.Printer.tells_text
      → g.B.Printer.printed l.board ≡ g.B.Printer.printed l.fn.board ++ offset_lines (take l.pair-index l.pairs);
  faults : g.B.Printer.faults l.board ≡ g.B.Printer.faults l.fn.board;
  store : KeepsStore g.B.Printer l.fn.board l.board;
  steps : l.steps ≤ l.fn.steps + l.pair-index;
}
