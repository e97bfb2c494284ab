use Rattle.{std.proofs.Common.{drop, flat_map}, verify_bench.specs.TripExplanations.{explanations_of}}
use Rattle.verify_bench.specs.{Bench.{IsMeterInRange}, BenchProgress.{IsAmidDrive}, Settings.{setting_under}}
use Rattle.verify_bench.specs.Common.{run_events}
use Rattle.verify_bench.proofs.expecting.explain.Given as goal

abbrev pub invariant-loop-run : goal.invariant-loop-run
invariant-loop-run l = record {
  amid : IsAmidDrive (setting_under l.checked l.params) (explanations_of (setting_under l.checked l.params)
      (flat_map run_events l.runs)) (flat_map run_events (drop l.run-index l.runs)) l.meter l.found.items;
  sound : IsMeterInRange 8639999 0 l.meter;
}
