use Rattle.std.proofs.{Common.{◌∙◌, ◌≡◌, ◌⊎◌, arith, rules, sym}, lemmas.{Grind.{common_steps}, Result.{on_ok_weaker}}}
use Rattle.verify_bench.{specs.Common.{ForHire, Hired, Stopped, context_now}, proofs.Benches.{acts_by, acts_by_either}}
use Rattle.verify_bench.specs.Settings.{setting_under}
use Rattle.taxi_units.specs.declared.event.Key.TheVariants as keys
use Rattle.verify_bench.proofs.bench_meter.BenchMeter.act.Goals as goal

pub returns-in-Hire-ForHire-clause-moves : goal.returns-in-Hire-ForHire-clause-moves
returns-in-Hire-ForHire-clause-moves c m hired stands =
    let s = setting_under c.args.checked.now c.args.params.now in
    let list = c.args.found.now.items in
    acts_by s hired (context_now s m) m.trip list list c.hire.new.self m c.args.key keys.Hire ForHire
    c.in-Hire-ForHire.is-0 (sym stands.operating ∙ c.in-Hire-ForHire.is-1)
    (c.hire.ensures.moves m.trip list m hired stands)

pub returns-in-Position-ForHire-clause-moves : goal.returns-in-Position-ForHire-clause-moves
returns-in-Position-ForHire-clause-moves c m hired stands =
    let s = setting_under c.args.checked.now c.args.params.now in
    let list = c.args.found.now.items in
    let at : (c.args.self.now.operating ≡ ForHire) ⊎ (c.args.self.now.operating ≡ Hired) = search rules in
    let moves = c.set_position.ensures.moves c.args.params.now m.trip list m hired hired stands in
    acts_by_either s hired (context_now s m) m.trip list list c.set_position.new.self m c.args.key
    (keys.Position c.in-Position-ForHire.number) c.args.self.now.operating ForHire Hired
    c.in-Position-ForHire.is-0 stands.operating at moves moves

pub returns-in-Zone-ForHire-clause-moves : goal.returns-in-Zone-ForHire-clause-moves
returns-in-Zone-ForHire-clause-moves c m hired stands =
    let s = setting_under c.args.checked.now c.args.params.now in
    let list = c.args.found.now.items in
    let at : (c.args.self.now.operating ≡ ForHire) ⊎ (c.args.self.now.operating ≡ Hired) = search rules in
    let moves = c.set_zone.ensures.moves c.args.params.now m.trip list m hired hired stands in
    acts_by_either s hired (context_now s m) m.trip list list c.set_zone.new.self m c.args.key
    (keys.Zone c.in-Zone-ForHire.number) c.args.self.now.operating ForHire Hired
    c.in-Zone-ForHire.is-0 stands.operating at moves moves

pub returns-in-Extra-Hired-clause-moves : goal.returns-in-Extra-Hired-clause-moves
returns-in-Extra-Hired-clause-moves c =
    let s = setting_under c.args.checked.now c.args.params.now in
    let list = c.args.found.now.items in
    let at : (c.args.self.now.operating ≡ Hired) ⊎ (c.args.self.now.operating ≡ Stopped) = search rules in
    on_ok_weaker c.add_supplement.result (λ goes m hired stands. acts_by_either s hired
    (context_now s m) m.trip list list c.add_supplement.new.self m c.args.key
    (keys.Extra c.in-Extra-Hired.number) c.args.self.now.operating Hired Stopped c.in-Extra-Hired.is-0 stands.operating
    at (goes c.args.params.now m.trip list m hired hired stands)
    (goes c.args.params.now m.trip list m hired hired stands))
    c.add_supplement.ensures.moves

pub returns-in_ok-close-in-Clear-Stopped-clause-moves : goal.returns-in_ok-close-in-Clear-Stopped-clause-moves
returns-in_ok-close-in-Clear-Stopped-clause-moves c m hired stands =
    let s = setting_under c.args.checked.now c.args.params.now in
    acts_by s hired (context_now s m) m.trip c.args.found.now.items c.close.new.found.items c.close.new.self m
    c.args.key keys.Clear Stopped c.in-Clear-Stopped.is-0 (sym stands.operating ∙ c.in-Clear-Stopped.is-1)
    (rw stands.clock at (c.in_ok-close-in-Clear-Stopped.ensures.moves m hired stands))

pub returns-in_default-2 : goal.returns-in_default-2
returns-in_default-2 c = grind (arith, common_steps)

pub returns-in_default-3 : goal.returns-in_default-3
returns-in_default-3 c = grind (arith, common_steps)

pub returns-in_default-4-clause-moves : goal.returns-in_default-4-clause-moves
returns-in_default-4-clause-moves c = grind (arith, common_steps)

pub returns-in_default-5-clause-moves : goal.returns-in_default-5-clause-moves
returns-in_default-5-clause-moves c = grind (arith, common_steps)

pub returns-in_default-6-clause-moves : goal.returns-in_default-6-clause-moves
returns-in_default-6-clause-moves c = grind (arith, common_steps)

pub returns-in_default-clause-moves : goal.returns-in_default-clause-moves
returns-in_default-clause-moves c = grind (arith, common_steps)

pub returns-in-Hire-Stopped-clause-moves : goal.returns-in-Hire-Stopped-clause-moves
returns-in-Hire-Stopped-clause-moves c = grind (arith, common_steps)

pub returns-in-Stop-Hired-clause-moves : goal.returns-in-Stop-Hired-clause-moves
returns-in-Stop-Hired-clause-moves c = grind (arith, common_steps)
