use Rattle.{std.proofs.lemmas.Result.{on_ok_weaker}, verify_bench.specs.Common.{hold_taken, powered, shown}}
use Rattle.verify_bench.{specs.Settings.{setting_under}, proofs.Benches.{moves_shown, moves_then}}
use Rattle.verify_bench.proofs.bench_meter.BenchMeter.come_up.Goals as goal

pub returns-clause-moves : goal.returns-clause-moves
returns-clause-moves c =
    let s = setting_under c.args.checked.now c.args.params.now in
    let a = c.args.found.now.items in
    let b = c.take_hold.new.found.items in
    let new = c.take_hold.new.self in
    on_ok_weaker c.take_hold.result (λ goes m hired stands.
    let taken = goes m hired (c.wake.ensures.stands s m hired stands) in
    let o = hold_taken s c.args.second m.durable.hold (powered c.args.second m) in
    let seen = moves_shown s hired hired m.trip b new o.next taken.state in
    moves_then s hired hired hired m.trip a b b new new o (shown s) taken seen)
    c.take_hold.ensures.moves
