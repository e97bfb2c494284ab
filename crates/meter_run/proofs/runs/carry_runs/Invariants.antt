use Rattle.std.{specs.List.{flat_map}, proofs.Common.{◌≡◌, take}}
use Rattle.meter_run.specs.{Common.{run_events}, Drives.{IsBounded}}
use Rattle.meter_run.proofs.runs.carry_runs.Given as goal

abbrev pub invariant-loop-run : goal.invariant-loop-run
invariant-loop-run g l = record {
  ready : g.C.Carrier.ready l.by l.meter l.board;
  carried : g.C.Carrier.carried l.by l.fn.meter l.fn.board
      (flat_map run_events (take l.run-index l.runs)) l.meter l.board;
  faults : g.B.Printer.faults l.board ≡ g.B.Printer.faults l.fn.board;
  steps : IsBounded l.fn.steps l.steps (flat_map run_events (take l.run-index l.runs));
}
