use Rattle.std.proofs.Common.{◌≡◌, arith}
use Rattle.verify_bench.{specs.Common.{interval_events, intervals_events}, proofs.Tellings.{tells_none, tells_then}}
use Rattle.verify_bench.{specs.Settings.{setting_under}, proofs.Carried.{intervals_more}}
use Rattle.verify_bench.proofs.teller.Teller.intervals.Goals as goal

pub loop-place-init : goal.loop-place-init
loop-place-init c = record {
  tells = tells_none (setting_under c.args.checked.now c.args.params.now) c.args.self.now c.args.stories.now;
  sound = c.requires.sound;
  few = omega arith;
}

pub loop-place-preserved : goal.loop-place-preserved
loop-place-preserved c =
    let s = setting_under c.args.checked.now c.args.params.now in
    let done = c.loop-place in
    record {
      tells = rw (intervals_more c.args.pulses done.place) at (tells_then s (intervals_events c.args.pulses
          done.place) (interval_events c.args.pulses) c.args.self.now done.self c.interval.new.self
          c.args.stories.now done.stories c.interval.new.stories done.invariant.tells
          c.in_ok-interval.ensures.tells);
      sound = c.in_ok-interval.ensures.sound;
      few = omega (arith, c.in_ok-interval.ensures.few, done.invariant.few);
    }

pub returns-clause-tells : goal.returns-clause-tells
returns-clause-tells c =
    let all : c.loop-place.place ≡ c.args.count = omega arith in
    rw all at c.loop-place.invariant.tells
