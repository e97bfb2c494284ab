use Rattle.std.proofs.Common.{◌*◌, ◌+◌, ◌-◌, ◌≡◌, ◌≤◌}
use Rattle.verify_bench.specs.{AddedText.{lines_events, place_of}, Generated.{generated_lines, trips_from}}
use Rattle.verify_bench.proofs.generated.generated_events.Given as goal

abbrev pub invariant-loop-trip : goal.invariant-loop-trip
invariant-loop-trip l = record {
  all : l.writing.events + lines_events (trips_from (l.trips - l.trip) (place_of l.writing)).lines
      ≡ lines_events (generated_lines l.seed l.trips);
  time : l.writing.tenths ≤ 7500 * l.trip;
  few : l.writing.events ≤ 15000 * l.trip + 1;
}
