use Rattle.std.proofs.Common.{ℕ, ◌+◌, ◌≡◌, ◌≢◌, ◌≤◌, Some, length}
use Rattle.log_commands.specs.Common.{MayRise, RisesOnlyIf, stream_limit}
use Rattle.log_commands.specs.{Filings.{IsFiling, IsLast}, declared.roll.RollEnd.TheVariants.{ReadFault}}
use Rattle.log_commands.proofs.file_roll.file_roll.Given as goal

abbrev pub invariant-loop-end : goal.invariant-loop-end
invariant-loop-end g l = record {
  filing : IsFiling g.G.Printer g.G.Printer.tells_image g.F.Files.tells l.fn.log l.log l.fn.tail l.tail
      (g.F.Files.rest l.fn.files l.word) l.roll (g.F.Files.rest l.files l.word) l.seen l.fn.steps l.steps;
  last : IsLast l.tail.last l.tail.newest;
  filed : l.tail.filed ≤ l.seen;
  most : l.seen + (length l.roll.ahead + l.roll.left) ≤ stream_limit;
  text : g.G.Printer.printed l.log ≡ g.G.Printer.printed l.fn.log;
  faults : g.G.Printer.faults l.log ≡ g.G.Printer.faults l.fn.log;
  fault : RisesOnlyIf (l.roll.end ≡ Some ReadFault) (g.F.Files.faults l.fn.files l.word)
      (g.F.Files.faults l.files l.word);
  others : (other : ℕ) → other ≢ l.word → g.F.Files.rest l.files other ≡ g.F.Files.rest l.fn.files other;
  counts : (other : ℕ) → MayRise (l.roll.end ≡ Some ReadFault) (g.F.Files.faults l.fn.files other)
      (g.F.Files.faults l.files other);
}

abbrev pub decreases-loop-end : goal.decreases-loop-end
decreases-loop-end g l = length l.roll.ahead + l.roll.left
