use Rattle.std.proofs.Common.{◌∙◌, ◌≡◌, None, Option, ap, false, refl, subst, sym, true}
use Rattle.verify_bench.specs.{Bench.{Moves}, Common.{ForHire, SavedState, Trip, hold_taken, is_within_hold, powered}}
use Rattle.verify_bench.{specs.Settings.{setting_under}, proofs.BenchSupply.{hold_beside, none_held, saved_is_a_second}}
use Rattle.verify_bench.{specs.Supplied.{waking}, proofs.Benches.{moves_quietly}}
use Rattle.verify_bench.proofs.bench_meter.BenchMeter.take_hold.Goals as goal

pub abort-requires-clause-saved : goal.abort-requires-clause-saved
abort-requires-clause-saved c =
    saved_is_a_second c.args.self.now.held c.in-Some.held c.in-Some.is c.requires.sound.held

pub returns-then-is_within-clause-moves : goal.returns-then-is_within-clause-moves
returns-then-is_within-clause-moves c m hired stands =
    let s = setting_under c.args.checked.now c.args.params.now in
    let list = c.args.found.now.items in
    let second = c.args.second in
    let hold = hold_beside m.durable.hold c.in-Some.held (sym c.in-Some.is ∙ stands.held) in
    let saved = ap (λ (h : SavedState). h.saved) hold.2 in
    let inside : is_within_hold s second hold.0 ≡ true = sym (rw saved at c.is_within.ensures) ∙ c.if-is_within.true in
    subst (λ (o : Option Trip). Moves s hired hired m.trip list list c.resume.new.self
    (hold_taken s second o (powered second m))) (sym hold.1)
    (rw inside (c.resume.ensures.moves s hold.0 hold.2 m.trip list (waking second m) hired hired stands))

pub returns-in_ok-abort-in-Some-clause-moves : goal.returns-in_ok-abort-in-Some-clause-moves
returns-in_ok-abort-in-Some-clause-moves c m hired stands =
    let s = setting_under c.args.checked.now c.args.params.now in
    let second = c.args.second in
    let hold = hold_beside m.durable.hold c.in-Some.held (sym c.in-Some.is ∙ stands.held) in
    let saved = ap (λ (h : SavedState). h.saved) hold.2 in
    let outside : is_within_hold s second hold.0 ≡ false =
    sym (rw saved at c.is_within.ensures) ∙ c.if-is_within.false in
    subst (λ (o : Option Trip). Moves s hired hired m.trip c.args.found.now.items c.abort.new.found.items
    c.abort.new.self (hold_taken s second o (powered second m))) (sym hold.1)
    (rw outside (c.in_ok-abort-in-Some.ensures.moves hold.0 hold.2 (waking second m) hired stands))

pub returns-in-None-clause-moves : goal.returns-in-None-clause-moves
returns-in-None-clause-moves c m hired stands =
    let s = setting_under c.args.checked.now c.args.params.now in
    let list = c.args.found.now.items in
    let second = c.args.second in
    let none = none_held m.durable.hold c.args.self.now.held c.in-None.is stands.held in
    subst (λ (o : Option Trip). Moves s hired hired m.trip list list
    (record c.args.self.now { hiring = None; operating = ForHire }) (hold_taken s second o (powered second m)))
    (sym none)
    (moves_quietly s hired hired m.trip list (record c.args.self.now { hiring = None; operating = ForHire })
    (record (powered second m) { trip = None }) (record {
      operating = refl;
      clock = stands.clock;
      began = stands.began;
      taken = stands.taken;
      latch = stands.latch;
      position = stands.position;
      zone = stands.zone;
      roam = stands.roam;
      number = stands.number;
      held = stands.held;
      trips = tt {0};
    }))
