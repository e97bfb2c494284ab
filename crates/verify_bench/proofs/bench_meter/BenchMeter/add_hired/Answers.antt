use Rattle.{std.proofs.lemmas.Result.{on_ok_weaker}, verify_bench.specs.{Common.{InHired}, Settings.{setting_under}}}
use Rattle.verify_bench.proofs.Benches.{stands_with}
use Rattle.verify_bench.proofs.bench_meter.BenchMeter.add_hired.Goals as goal

pub returns-in-Some-clause-stands : goal.returns-in-Some-clause-stands
returns-in-Some-clause-stands c =
    let s = setting_under c.args.checked.now c.args.params.now in
    on_ok_weaker c.add_hired.result (λ grows m hired stands.
    stands_with s hired c.args.self.now m (InHired c.args.self.now.taken c.args.x.now) _ _ c.in-Some.is stands
    (λ t is. grows s hired c.args.x.now t is c.price_of.ensures.price))
    c.add_hired.ensures.trip
