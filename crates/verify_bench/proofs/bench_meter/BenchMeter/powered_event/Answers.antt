use Rattle.{std.proofs.{Common.{subst, sym}, lemmas.Result.{on_ok_weaker}}, verify_bench.specs.Settings.{setting_under}}
use Rattle.verify_bench.specs.{Bench.{Moves}, Common.{Event, powered_step}, TripExplanations.{hired_at, trip_at}}
use Rattle.verify_bench.proofs.bench_meter.BenchMeter.powered_event.Goals as goal

pub returns-in-Down-clause-moves : goal.returns-in-Down-clause-moves
returns-in-Down-clause-moves c =
    let s = setting_under c.args.checked.now c.args.params.now in
    on_ok_weaker c.go_down.result (λ goes m hired stands.
    subst (λ (e : Event). Moves s hired (hired_at s e m hired) (trip_at s e m) c.args.found.now.items
    c.go_down.new.found.items c.go_down.new.self (powered_step s e m)) (sym c.in-Down.is) (goes m hired stands))
    c.go_down.ensures.moves

pub returns-in-Tick-clause-moves : goal.returns-in-Tick-clause-moves
returns-in-Tick-clause-moves c =
    let s = setting_under c.args.checked.now c.args.params.now in
    on_ok_weaker c.tick.result (λ goes m hired stands.
    subst (λ (e : Event). Moves s hired (hired_at s e m hired) (trip_at s e m) c.args.found.now.items
    c.tick.new.found.items c.tick.new.self (powered_step s e m)) (sym c.in-Tick.is) (goes m hired stands))
    c.tick.ensures.moves

pub returns-in-Pulses-clause-moves : goal.returns-in-Pulses-clause-moves
returns-in-Pulses-clause-moves c m hired stands =
    let s = setting_under c.args.checked.now c.args.params.now in
    let list = c.args.found.now.items in
    subst (λ (e : Event). Moves s hired (hired_at s e m hired) (trip_at s e m) list list c.take_pulses.new.self
    (powered_step s e m)) (sym c.in-Pulses.is)
    (c.take_pulses.ensures.moves s m.trip list m hired hired stands)

pub returns-in-Clock-clause-moves : goal.returns-in-Clock-clause-moves
returns-in-Clock-clause-moves c m hired stands =
    let s = setting_under c.args.checked.now c.args.params.now in
    let list = c.args.found.now.items in
    subst (λ (e : Event). Moves s hired (hired_at s e m hired) (trip_at s e m) list list c.read_clock.new.self
    (powered_step s e m)) (sym c.in-Clock.is)
    (c.read_clock.ensures.moves s m.trip list m hired hired stands)

pub returns-in-Key-clause-moves : goal.returns-in-Key-clause-moves
returns-in-Key-clause-moves c m hired stands =
    let s = setting_under c.args.checked.now c.args.params.now in
    let list = c.args.found.now.items in
    subst (λ (e : Event). Moves s hired (hired_at s e m hired) (trip_at s e m) list list c.latch_key.new.self
    (powered_step s e m)) (sym c.in-Key.is)
    (c.latch_key.ensures.moves s m.trip list m hired hired stands)
