use Rattle.std.proofs.Common.{◌≡◌}
use Rattle.verify_bench.specs.Common.{ForHire}
use Rattle.verify_bench.proofs.{Benches.{roams}, bench_meter.BenchMeter.check_roaming.Goals.{in-ForHire, in_default}}
use Rattle.verify_bench.proofs.bench_meter.BenchMeter.check_roaming.Goals as goal

pub enter_roaming-requires-clause-none : goal.enter_roaming-requires-clause-none
enter_roaming-requires-clause-none c =
    c.requires.sound.for_hire
    (elim c.match-matches.branch [ in-ForHire w ↦ w.in-ForHire.is | in_default w ↦ absurd cc ])

pub returns-then-self-clause-moves : goal.returns-then-self-clause-moves
returns-then-self-clause-moves c s trip found m hired next stands =
    let here : c.args.self.now.operating ≡ ForHire =
    elim c.match-matches.branch [ in-ForHire w ↦ w.in-ForHire.is | in_default w ↦ absurd cc ] in
    rw (roams s next c.args.self.now m stands here c.if-self.true)
    (c.enter_roaming.ensures.moves s trip found m hired next stands)
