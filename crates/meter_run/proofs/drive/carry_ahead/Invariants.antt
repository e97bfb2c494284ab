use Rattle.std.proofs.Common.{ℕ, ◌+◌, ◌<◌, ◌≡◌, List, length}
use Rattle.meter_run.{specs.Common.{HasGiven}, proofs.WholeDrive.{IsOnWay}}
use Rattle.meter_run.proofs.drive.carry_ahead.Given as goal

-- so far the runs of bytes that were ahead were given, and their events were carried out; some bytes still are ahead
abbrev pub invariant-ahead : goal.invariant-ahead
invariant-ahead g l = record {
  ready : g.C.Carrier.ready l.by l.meter l.board;
  way : IsOnWay (g.C.Carrier.carried l.by) l.fn.source l.fn.meter l.fn.board l.fn.steps l.source l.meter l.board
      l.steps;
  given : (given : List ℕ) × HasGiven l.source given;
  some : 0 < length l.source.ahead;
  faults : g.B.Printer.faults l.board ≡ g.B.Printer.faults l.fn.board;
}

abbrev pub decreases-ahead : goal.decreases-ahead
decreases-ahead g l = length l.source.ahead + l.source.left
