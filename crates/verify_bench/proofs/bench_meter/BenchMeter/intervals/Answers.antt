use Rattle.std.proofs.Common.{◌≡◌, arith}
use Rattle.verify_bench.specs.Common.{interval_events, intervals_events}
use Rattle.verify_bench.{specs.Settings.{setting_under}, proofs.Carried.{carries_none, carries_then, intervals_more}}
use Rattle.verify_bench.proofs.bench_meter.BenchMeter.intervals.Goals as goal

pub loop-place-init : goal.loop-place-init
loop-place-init c = record {
  carries = carries_none (setting_under c.args.checked.now c.args.params.now) c.args.self.now c.args.found.now.items;
  sound = c.requires.sound;
}

pub loop-place-preserved : goal.loop-place-preserved
loop-place-preserved c =
    let s = setting_under c.args.checked.now c.args.params.now in
    let done = c.loop-place in
    record {
      carries = rw (intervals_more c.args.pulses done.place) at (carries_then s (intervals_events c.args.pulses
          done.place) (interval_events c.args.pulses) c.args.self.now done.self c.interval.new.self
          c.args.found.now.items done.found.items c.interval.new.found.items done.invariant.carries
          c.in_ok-interval.ensures.carries);
      sound = c.in_ok-interval.ensures.sound;
    }

pub returns-clause-carries : goal.returns-clause-carries
returns-clause-carries c =
    let all : c.loop-place.place ≡ c.args.count = omega arith in
    rw all at c.loop-place.invariant.carries
