use Rattle.{std.proofs.Common.{ap, refl}, taxi_units.specs.declared.receipt.Kind.TheVariants.{Aborted}}
use Rattle.verify_bench.{specs.Common.{Meter, SavedState, closed, quiet}, proofs.Benches.{moves_quietly, moves_then}}
use Rattle.verify_bench.specs.Settings.{setting_under}
use Rattle.verify_bench.proofs.bench_meter.BenchMeter.abort.Goals as goal

pub returns-clause-moves : goal.returns-clause-moves
returns-clause-moves c trip is m hired stands =
    let s = setting_under c.args.checked.now c.args.params.now in
    let a = c.args.found.now.items in
    let b = c.close.new.found.items in
    let m1 = record m { position = trip.position } in
    let end = c.in_ok-close.ensures.moves m1 hired (record {
      operating = stands.operating;
      clock = stands.clock;
      began = stands.began;
      taken = stands.taken;
      latch = stands.latch;
      position = ap (λ (h : SavedState). h.position) is;
      zone = stands.zone;
      roam = stands.roam;
      number = stands.number;
      held = stands.held;
      trips = stands.trips;
    }) in
    let second = c.args.held.saved in
    let m2 = (closed s Aborted second m1).next in
    let back = moves_quietly s hired hired m.trip b (record c.close.new.self { position = 1; zone = 1 })
    (record m2 { position = 1; zone = 1 }) (record {
      operating = end.state.operating;
      clock = end.state.clock;
      began = end.state.began;
      taken = end.state.taken;
      latch = end.state.latch;
      position = refl;
      zone = refl;
      roam = end.state.roam;
      number = end.state.number;
      held = end.state.held;
      trips = end.state.trips;
    }) in
    rw (ap (λ (h : SavedState). h.saved) is) at
    (moves_then s hired hired hired m.trip a b b c.close.new.self (record c.close.new.self { position = 1; zone = 1 })
    (closed s Aborted second m1) (λ (n : Meter). quiet (record n { position = 1; zone = 1 })) end back)
