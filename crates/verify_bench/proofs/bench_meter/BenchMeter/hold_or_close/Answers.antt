use Rattle.std.proofs.{Common.{Option, subst, sym}, lemmas.Result.{on_ok_weaker}}
use Rattle.verify_bench.{specs.{Bench.{Moves}, Settings.{setting_under}}, proofs.Benches.{trip_beside}}
use Rattle.verify_bench.{specs.Common.{MeterTrip, held_or_closed}, proofs.BenchSupply.{holds_no_more, holds_yet}}
use Rattle.verify_bench.proofs.bench_meter.BenchMeter.hold_or_close.Goals as goal

pub returns-then-self-lt-LAST_NUMBER-clause-moves : goal.returns-then-self-lt-LAST_NUMBER-clause-moves
returns-then-self-lt-LAST_NUMBER-clause-moves c m hired stands =
    let s = setting_under c.args.checked.now c.args.params.now in
    let list = c.args.found.now.items in
    let trip = trip_beside s hired c.in-Some.field-0 c.args.self.now.hiring m.trip c.in-Some.is stands.trips in
    subst
    (λ (o : Option MeterTrip). Moves s hired hired m.trip list list c.hold.new.self (held_or_closed s o m)) (sym trip.1)
    (rw (holds_yet s hired c.args.self.now m stands c.if-self-lt-LAST_NUMBER.true)
    (c.hold.ensures.moves s trip.0 m.trip list m hired hired stands))

pub returns-else-self-lt-LAST_NUMBER-clause-moves : goal.returns-else-self-lt-LAST_NUMBER-clause-moves
returns-else-self-lt-LAST_NUMBER-clause-moves c =
    let s = setting_under c.args.checked.now c.args.params.now in
    on_ok_weaker c.close.result (λ goes m hired stands.
    let trip = trip_beside s hired c.in-Some.field-0 c.args.self.now.hiring m.trip c.in-Some.is stands.trips in
    subst (λ (o : Option MeterTrip). Moves s hired hired m.trip c.args.found.now.items c.close.new.found.items
    c.close.new.self (held_or_closed s o m)) (sym trip.1)
    (rw (holds_no_more s hired c.args.self.now m stands c.if-self-lt-LAST_NUMBER.false)
    (rw stands.clock at (goes m hired stands))))
    c.close.ensures.moves

pub returns-in-None-clause-moves : goal.returns-in-None-clause-moves
returns-in-None-clause-moves c m hired stands =
    c.enter_roaming_if_any.ensures.moves (setting_under c.args.checked.now c.args.params.now) m.trip
    c.args.found.now.items m hired hired stands
