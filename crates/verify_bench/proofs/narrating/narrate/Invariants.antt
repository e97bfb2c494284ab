use Rattle.std.proofs.Common.{◌*◌, ◌≤◌, drop, flat_map}
use Rattle.verify_bench.specs.{Bench.{IsMeterInRange}, Common.{run_events}, Settings.{setting_under}, Told.{IsAmidTold}}
use Rattle.verify_bench.specs.Story.{stories_of}
use Rattle.verify_bench.proofs.narrating.narrate.Given as goal

abbrev pub invariant-loop-run : goal.invariant-loop-run
invariant-loop-run l = record {
  amid : IsAmidTold (setting_under l.checked l.params) (stories_of (setting_under l.checked l.params)
      (flat_map run_events l.runs)) (flat_map run_events (drop l.run-index l.runs)) l.teller l.stories;
  sound : IsMeterInRange 8639999 0 l.teller.meter;
  few : l.teller.since ≤ 8589934592 * l.run-index;
}
