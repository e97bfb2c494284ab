use Rattle.verify_bench.proofs.Benches.{pulses_beside}
use Rattle.verify_bench.proofs.bench_meter.BenchMeter.pulses.Goals as goal

pub returns-in-Some : goal.returns-in-Some
returns-in-Some c s m hired stands = pulses_beside s hired c.args.self.now m c.in-Some.hiring c.in-Some.is stands
