use Rattle.verify_bench.specs.Bench.{IsMeterInRange}
use Rattle.verify_bench.specs.{BenchProgress.{Carries}, Common.{intervals_events}, Settings.{setting_under}}
use Rattle.verify_bench.proofs.bench_meter.BenchMeter.intervals.Given as goal

abbrev pub invariant-loop-place : goal.invariant-loop-place
invariant-loop-place l = record {
  carries : Carries (setting_under l.checked l.params)
      (intervals_events l.pulses l.place) l.initial.self l.self l.initial.found.items l.found.items;
  sound : IsMeterInRange 8639999 0 l.self;
}
