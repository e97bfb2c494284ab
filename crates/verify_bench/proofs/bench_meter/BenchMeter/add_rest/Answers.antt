use Rattle.verify_bench.{specs.Common.{Rest}, proofs.Benches.{stands_with}}
use Rattle.verify_bench.proofs.bench_meter.BenchMeter.add_rest.Goals as goal

pub returns-in-Some-clause-stands : goal.returns-in-Some-clause-stands
returns-in-Some-clause-stands c s m hired stands =
    stands_with s hired c.args.self.now m (Rest c.args.self.now.taken) _ _ c.in-Some.is stands
    (c.add_rest.ensures.trip s hired)
