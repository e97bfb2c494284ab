use Rattle.std.proofs.Common.{◌++◌, ◌+◌, ◌≡◌, ◌≤◌, take}
use Rattle.data_port.specs.{Common.{KeepsStore}, ServedStream.{replies}}
use Rattle.data_port.proofs.serving.print_replies.Given as goal

-- the replies to the requests so far were printed
abbrev pub invariant-loop-request : goal.invariant-loop-request
invariant-loop-request g l = record {
  printed : g.B.Printer.tells_text → g.B.Printer.printed l.board
      ≡ g.B.Printer.printed l.fn.board ++ replies l.durable l.seal (take l.request-index l.requests);
  faults : g.B.Printer.faults l.board ≡ g.B.Printer.faults l.fn.board;
  store : KeepsStore g.B.Printer l.fn.board l.board;
  steps : l.steps ≤ l.fn.steps + l.request-index;
}
