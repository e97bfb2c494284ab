use Rattle.{std.proofs.Common.{drop, flat_map}, verify_bench.specs.BenchProgress.{IsAmidExpected}}
use Rattle.verify_bench.specs.{Bench.{IsMeterInRange}, ExpectedReceipts.{expected_of}, Settings.{setting_under}}
use Rattle.verify_bench.specs.Common.{run_events}
use Rattle.verify_bench.proofs.expecting.expect.Given as goal

abbrev pub invariant-loop-run : goal.invariant-loop-run
invariant-loop-run l = record {
  amid : IsAmidExpected (setting_under l.checked l.seal.params) (expected_of (setting_under l.checked l.seal.params)
      (flat_map run_events l.runs)) (flat_map run_events (drop l.run-index l.runs)) l.meter l.found.items;
  sound : IsMeterInRange 8639999 0 l.meter;
}
