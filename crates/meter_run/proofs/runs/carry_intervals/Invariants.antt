use Rattle.std.proofs.Common.{◌-◌, ◌≡◌, ◌≤◌}
use Rattle.meter_run.specs.{Common.{intervals_events}, Drives.{IsBounded}}
use Rattle.meter_run.proofs.runs.carry_intervals.Given as goal

abbrev pub invariant-loop-done : goal.invariant-loop-done
invariant-loop-done g l = record {
  few : l.done ≤ l.count;
  ready : g.C.Carrier.ready l.by l.meter l.board;
  carried : g.C.Carrier.carried l.by l.fn.meter l.fn.board (intervals_events l.pulses l.done) l.meter l.board;
  faults : g.B.Printer.faults l.board ≡ g.B.Printer.faults l.fn.board;
  steps : IsBounded l.fn.steps l.steps (intervals_events l.pulses l.done);
}

abbrev pub decreases-loop-done : goal.decreases-loop-done
decreases-loop-done g l = l.count - l.done
