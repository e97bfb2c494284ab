use Rattle.std.proofs.{Common.{◌∙◌, ◌≡◌, ◌≢◌, rules, subst, sym}, lemmas.Result.{on_ok_weaker}}
use Rattle.verify_bench.{specs.{Bench.{Moves}, Settings.{setting_under}}, proofs.BenchSupply.{step_on}}
use Rattle.verify_bench.specs.{Common.{Event, Off, Operating, Up, step, step_in}, TripExplanations.{hired_at, trip_at}}
use Rattle.verify_bench.proofs.bench_meter.BenchMeter.event.Goals as goal

pub returns-in-Up-clause-moves : goal.returns-in-Up-clause-moves
returns-in-Up-clause-moves c =
    let s = setting_under c.args.checked.now c.args.params.now in
    let a = c.args.found.now.items in
    let b = c.come_up.new.found.items in
    let new = c.come_up.new.self in
    on_ok_weaker c.come_up.result (λ goes m hired stands.
    let off : m.operating ≡ Off = sym stands.operating ∙ c.in-Off.is in
    subst (λ (e : Event). Moves s hired (hired_at s e m hired) (trip_at s e m) a b new (step s e m)) (sym c.in-Up.is)
    (subst (λ (o : Operating). Moves s hired hired m.trip a b new (step_in s o (Up c.in-Up.second) m)) (sym off)
    (goes m hired stands)))
    c.come_up.ensures.moves

pub returns-in-ForHire-clause-moves : goal.returns-in-ForHire-clause-moves
returns-in-ForHire-clause-moves c =
    let s = setting_under c.args.checked.now c.args.params.now in
    let on : c.args.self.now.operating ≢ Off = search rules in
    on_ok_weaker c.powered_event.result (λ goes m hired stands.
    rw (step_on s c.args.event m.operating m (λ off. on (stands.operating ∙ off))) (goes m hired stands))
    c.powered_event.ensures.moves
