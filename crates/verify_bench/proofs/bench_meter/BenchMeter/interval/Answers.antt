use Rattle.std.proofs.{Common.{[], ◌∷◌}, lemmas.Result.{on_ok_weaker}}
use Rattle.verify_bench.specs.Common.{Pulses, Tick}
use Rattle.verify_bench.{specs.Settings.{setting_under}, proofs.Carried.{carries_then, interval_none, interval_some}}
use Rattle.verify_bench.proofs.bench_meter.BenchMeter.interval.Goals as goal

pub returns-then-pulses-eq0-clause-carries : goal.returns-then-pulses-eq0-clause-carries
returns-then-pulses-eq0-clause-carries c =
    on_ok_weaker c.carry.result (λ goes. rw (interval_none c.args.pulses c.if-pulses-eq0.true) goes)
    c.carry.ensures.carries

pub returns-clause-carries : goal.returns-clause-carries
returns-clause-carries c =
    let s = setting_under c.args.checked.now c.args.params.now in
    on_ok_weaker c.carry-3.result (λ goes. rw (interval_some c.args.pulses c.if-pulses-eq0.false)
    (carries_then s (Pulses c.args.pulses ∷ []) (Tick ∷ []) c.args.self.now c.carry-2.new.self c.carry-3.new.self
    c.args.found.now.items c.carry-2.new.found.items c.carry-3.new.found.items c.in_ok-carry.ensures.carries goes))
    c.carry-3.ensures.carries
