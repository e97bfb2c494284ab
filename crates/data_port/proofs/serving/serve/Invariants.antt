use Rattle.std.proofs.Common.{ℕ, ◌≡◌, ◌≢◌}
use Rattle.data_port.{specs.Common.{KeepsStore}, proofs.Pieces.{ServedSoFar}}
use Rattle.data_port.proofs.serving.serve.Given as goal

-- the replies to the requests of the bytes that were taken were printed
abbrev pub invariant-loop-left : goal.invariant-loop-left
invariant-loop-left g l = record {
  so_far : ServedSoFar g.F.Files.tells g.B.Printer.tells_text l.durable l.seal l.port (g.F.Files.rest l.fn.files l.word)
      (g.F.Files.rest l.files l.word)
      (g.B.Printer.printed l.fn.board) (g.B.Printer.printed l.board) l.left l.fn.steps l.steps;
  others : (other : ℕ) → other ≢ l.word → g.F.Files.rest l.files other ≡ g.F.Files.rest l.fn.files other;
  counts : (other : ℕ) → g.F.Files.faults l.files other ≡ g.F.Files.faults l.fn.files other;
  faults : g.B.Printer.faults l.board ≡ g.B.Printer.faults l.fn.board;
  store : KeepsStore g.B.Printer l.fn.board l.board;
}

abbrev pub decreases-loop-left : goal.decreases-loop-left
decreases-loop-left g l = l.left
