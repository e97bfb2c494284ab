use Rattle.std.proofs.Common.{ℕ, ◌≡◌, ◌≢◌}
use Rattle.meter_run.proofs.WholeDrive.{IsUpTo}
use Rattle.meter_run.proofs.drive.carry_drive.Given as goal

-- so far all bytes that were taken of the drive were given, and their events were carried out
abbrev pub invariant-loop-stop : goal.invariant-loop-stop
invariant-loop-stop g l = record {
  ready : g.C.Carrier.ready l.by l.meter l.board;
  up_to : IsUpTo g.F.Files.tells l.source (g.F.Files.rest l.fn.files l.word) (g.F.Files.rest l.files l.word)
      (λ events. g.C.Carrier.carried l.by l.fn.meter l.fn.board events l.meter l.board) l.fn.steps l.steps;
  faults : g.B.Printer.faults l.board ≡ g.B.Printer.faults l.fn.board;
  others : (other : ℕ) → other ≢ l.word → g.F.Files.rest l.files other ≡ g.F.Files.rest l.fn.files other;
  counts : (other : ℕ) → g.F.Files.faults l.files other ≡ g.F.Files.faults l.fn.files other;
}

abbrev pub decreases-loop-stop : goal.decreases-loop-stop
decreases-loop-stop g l = l.source.left
