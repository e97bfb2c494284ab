use Rattle.verify_bench.{specs.Settings.{setting_under}, proofs.Carried.{carries_event}}
use Rattle.verify_bench.proofs.bench_meter.BenchMeter.carry.Goals as goal

pub returns-clause-carries : goal.returns-clause-carries
returns-clause-carries c =
    carries_event (setting_under c.args.checked.now c.args.params.now) c.args.event c.args.self.now c.event.new.self
    c.args.found.now.items c.event.new.found.items c.in_ok-event.ensures.moves
