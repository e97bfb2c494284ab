use Rattle.std.proofs.Common.{◌++◌, ◌+◌, ◌≡◌, ◌≤◌, drop, take}
use Rattle.meter_run.specs.{Commits.{AreFor, after_acts}, Common.{KeepsStore}, Texts.{shown_texts}}
use Rattle.meter_run.proofs.dry.perform_all.Given as goal

abbrev pub invariant-loop-act : goal.invariant-loop-act
invariant-loop-act g l = record {
  durable : l.durable ≡ after_acts l.fn.durable (take l.act-index l.acts);
  left : AreFor l.durable (drop l.act-index l.acts);
  printed : g.B.Printer.tells_text
      → g.B.Printer.printed l.board ≡ g.B.Printer.printed l.fn.board ++ shown_texts (take l.act-index l.acts);
  faults : g.B.Printer.faults l.board ≡ g.B.Printer.faults l.fn.board;
  store : KeepsStore g.B.Printer l.fn.board l.board;
  steps : l.steps ≤ l.fn.steps + l.act-index;
}
