use Rattle.std.proofs.Common.{ℕ, ◌++◌, ◌+◌, ◌≡◌, ◌≤◌, List, length}
use Rattle.call_ends.specs.{Common.{KeepsStore}, Pieces.{pieces_of}}
use Rattle.call_ends.proofs.pieces.print_text.Given as goal

-- a part of the text was printed, and the rest is left
abbrev pub invariant-loop-rest : goal.invariant-loop-rest
invariant-loop-rest g l = record {
  done : List ℕ;
  split : l.fn.text ≡ done ++ l.rest;
  printed : g.B.Printer.tells_text → g.B.Printer.printed l.board ≡ g.B.Printer.printed l.fn.board ++ done;
  faults : g.B.Printer.faults l.board ≡ g.B.Printer.faults l.fn.board;
  store : KeepsStore g.B.Printer l.fn.board l.board;
  steps : l.steps + pieces_of (length l.rest) ≤ l.fn.steps + pieces_of (length l.fn.text);
}

abbrev pub decreases-loop-rest : goal.decreases-loop-rest
decreases-loop-rest g l = length l.rest
