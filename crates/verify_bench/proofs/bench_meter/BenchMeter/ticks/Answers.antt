use Rattle.verify_bench.proofs.Benches.{ticks_beside}
use Rattle.verify_bench.proofs.bench_meter.BenchMeter.ticks.Goals as goal

pub returns-in-Some-clause-stands : goal.returns-in-Some-clause-stands
returns-in-Some-clause-stands c s m hired stands =
    ticks_beside s hired c.args.self.now m c.in-Some.hiring c.in-Some.is stands
