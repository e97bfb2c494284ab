use Rattle.std.proofs.Common.{◌*◌, ◌+◌, ◌≤◌}
use Rattle.verify_bench.specs.{Bench.{IsMeterInRange}, Common.{intervals_events}, Settings.{setting_under}}
use Rattle.verify_bench.specs.Told.{TellsAll}
use Rattle.verify_bench.proofs.teller.Teller.intervals.Given as goal

abbrev pub invariant-loop-place : goal.invariant-loop-place
invariant-loop-place l = record {
  tells : TellsAll (setting_under l.checked l.params)
      (intervals_events l.pulses l.place) l.initial.self l.self l.initial.stories l.stories;
  sound : IsMeterInRange 8639999 0 l.self.meter;
  few : l.self.since ≤ l.initial.self.since + 2 * l.place;
}
