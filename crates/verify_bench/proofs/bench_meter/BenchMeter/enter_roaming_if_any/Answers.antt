use Rattle.{std.proofs.Common.{arith}, verify_bench.proofs.BenchSupply.{keeps_roaming}}
use Rattle.verify_bench.proofs.bench_meter.BenchMeter.enter_roaming_if_any.Goals as goal

pub returns-clause-moves : goal.returns-clause-moves
returns-clause-moves c s trip found m hired next stands =
    rw (keeps_roaming s next c.args.self.now m stands c.requires.none (omega arith))
    (c.enter_roaming.ensures.moves s trip found m hired next stands)
