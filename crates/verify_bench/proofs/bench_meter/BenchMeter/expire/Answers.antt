use Rattle.{std.proofs.Common.{None, refl}, taxi_units.specs.declared.receipt.Kind.TheVariants.{Expired}}
use Rattle.verify_bench.{specs.Common.{Meter, closed, latch_refused}, proofs.Benches.{latch_lost, moves_then}}
use Rattle.verify_bench.specs.Settings.{setting_under}
use Rattle.verify_bench.proofs.bench_meter.BenchMeter.expire.Goals as goal

pub returns-clause-moves : goal.returns-clause-moves
returns-clause-moves c m hired stands =
    let s = setting_under c.args.checked.now c.args.params.now in
    let a = c.args.found.now.items in
    let b = c.close.new.found.items in
    let meter = c.close.new.self in
    let first = rw stands.clock at (c.in_ok-close.ensures.moves m hired stands) in
    let o = closed s Expired m.clock m in
    moves_then s hired hired hired m.trip a b b meter (record meter { latch = None }) o
    (λ (n : Meter). latch_refused n.latch n) first
    (latch_lost s hired hired m.trip b meter o.next o.next.latch refl first.state)
