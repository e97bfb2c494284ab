use Rattle.std.proofs.Common.{◌*◌, ◌++◌, ◌+◌, ◌≡◌, ◌≤◌, List, length, take}
use Rattle.log_commands.specs.{Common.{KeepsStore}, LogList.{AreInSlots}, Record.{Record}, ShownLog.{texts_of}}
use Rattle.log_commands.proofs.show.show_records.Given as goal

abbrev pub invariant-loop-more : goal.invariant-loop-more
invariant-loop-more g l = record {
  so_far : g.G.Printer.tells_image → g.G.Printer.tells_text → (records : List Record)
      → AreInSlots (g.G.Printer.image l.fn.log) l.first records → length records ≡ l.count
      → g.G.Printer.printed l.log ≡ g.G.Printer.printed l.fn.log ++ texts_of (take l.more records);
  keeps : KeepsStore g.G.Printer l.fn.log l.log;
  faults : g.G.Printer.faults l.log ≡ g.G.Printer.faults l.fn.log;
  few : l.steps ≤ l.fn.steps + 2 * l.more;
}
