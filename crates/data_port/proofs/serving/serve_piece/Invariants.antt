use Rattle.std.proofs.Common.{◌≡◌, length}
use Rattle.data_port.{specs.Common.{KeepsStore}, proofs.Pieces.{PieceSoFar}}
use Rattle.data_port.proofs.serving.serve_piece.Given as goal

-- the replies to the requests of the front of the piece were printed
abbrev pub invariant-loop-rest : goal.invariant-loop-rest
invariant-loop-rest g l = record {
  so_far : PieceSoFar g.B.Printer.tells_text l.durable l.seal l.fn.port l.port l.piece l.rest
      (g.B.Printer.printed l.fn.board) (g.B.Printer.printed l.board) l.fn.steps l.steps;
  faults : g.B.Printer.faults l.board ≡ g.B.Printer.faults l.fn.board;
  store : KeepsStore g.B.Printer l.fn.board l.board;
}

abbrev pub decreases-loop-rest : goal.decreases-loop-rest
decreases-loop-rest g l = length l.rest
