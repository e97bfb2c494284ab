use Rattle.std.proofs.Common.{◌*◌, ◌++◌, ◌+◌, ◌≡◌, ◌≤◌, drop, take}
use Rattle.meter_run.specs.{Commits.{AreFor, after_acts, commits_in}, OnStore.{Agrees, MayDo, WritesTotals}}
use Rattle.meter_run.specs.{Common.{TableParts}, Deeds.{changes_of, deeds_of, texts}, InTurn.{CommitsInTurn}}
use Rattle.meter_run.specs.Points.{GoesBy}
use Rattle.meter_run.proofs.storing.do_acts.Given as goal

-- so far the first acts were carried out
abbrev pub invariant-loop-act : goal.invariant-loop-act
invariant-loop-act g l = record {
  durable : l.known.durable ≡ after_acts l.fn.known.durable (take l.act-index l.acts);
  left : AreFor l.known.durable (drop l.act-index l.acts);
  agrees : (tables : TableParts) → MayDo g.B.Printer tables l.fn.known l.fn.board l.acts
      → Agrees g.B.Printer tables l.known l.board;
  printed : g.B.Printer.tells_text
      → g.B.Printer.printed l.board ≡ g.B.Printer.printed l.fn.board ++ texts l.seal (deeds_of
      (take l.act-index l.acts));
  points : g.B.Printer.tells_image → (tables : TableParts) → MayDo g.B.Printer tables l.fn.known l.fn.board l.acts
      → GoesBy g.B.Printer tables l.seal l.fn.board l.board l.fn.known.durable (deeds_of (take l.act-index l.acts));
  turn : g.B.Printer.tells_image → CommitsInTurn g.B.Printer l.fn.known.durable
      (changes_of (deeds_of (take l.act-index l.acts))) l.fn.board l.board;
  beside : g.B.Printer.tells_image → WritesTotals g.B.Printer l.fn.board l.board;
  faults : g.B.Printer.faults l.board ≡ g.B.Printer.faults l.fn.board;
  steps : l.steps ≤ l.fn.steps + l.act-index + 5 * commits_in (take l.act-index l.acts);
}
