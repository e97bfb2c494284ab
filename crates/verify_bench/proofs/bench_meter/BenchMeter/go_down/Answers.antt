use Rattle.{std.proofs.Common.{None, refl}, verify_bench.specs.Common.{Off, held_or_closed, interval_left, turned_off}}
use Rattle.verify_bench.{specs.Settings.{setting_under}, proofs.Benches.{moves_quietly, moves_then}}
use Rattle.verify_bench.proofs.bench_meter.BenchMeter.go_down.Goals as goal

pub returns-clause-moves : goal.returns-clause-moves
returns-clause-moves c m hired stands =
    let s = setting_under c.args.checked.now c.args.params.now in
    let m1 = (interval_left m).next in
    let o = held_or_closed s m1.trip m1 in
    let b = c.hold_or_close.new.found.items in
    let meter = c.hold_or_close.new.self in
    let off = record meter { operating = Off; latch = None } in
    let held = c.in_ok-hold_or_close.ensures.moves m1 hired (c.leave_interval.ensures.stands s m hired stands) in
    moves_then s hired hired hired m1.trip c.args.found.now.items b b meter off o turned_off held (moves_quietly s hired
    hired m1.trip b off (turned_off o.next).next (record {
      operating = refl;
      clock = held.state.clock;
      began = held.state.began;
      taken = held.state.taken;
      latch = refl;
      position = held.state.position;
      zone = held.state.zone;
      roam = held.state.roam;
      number = held.state.number;
      held = held.state.held;
      trips = held.state.trips;
    }))
