use Rattle.std.proofs.Common.{◌+◌, ◌≡◌, length}
use Rattle.log_commands.specs.{Common.{KeepsStore}, ListedRows.{IsListing}}
use Rattle.log_commands.proofs.list_rows.list_rows.Given as goal

abbrev pub invariant-loop-end : goal.invariant-loop-end
invariant-loop-end g l = record {
  listing : IsListing g.F.Files g.G.Printer l.fn.files l.files l.fn.log l.log l.roll l.fn.steps l.steps;
  keeps : KeepsStore g.G.Printer l.fn.log l.log;
  faults : g.G.Printer.faults l.log ≡ g.G.Printer.faults l.fn.log;
}

abbrev pub decreases-loop-end : goal.decreases-loop-end
decreases-loop-end g l = length l.roll.ahead + l.roll.left
