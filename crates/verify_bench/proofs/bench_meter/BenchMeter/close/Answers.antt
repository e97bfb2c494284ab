use Rattle.std.proofs.{Common.{[], ◌++◌, ◌∙◌, ◌∷◌, ◌≡◌, OnOk, rules, sym}, lemmas.Result.{on_ok_weaker}}
use Rattle.verify_bench.{specs.Settings.{setting_under}, proofs.Benches.{closes_trip, few_numbers}}
use Rattle.verify_bench.proofs.bench_meter.BenchMeter.close.Goals as goal

pub returns-in_ok-explained-in-Some-clause-moves : goal.returns-in_ok-explained-in-Some-clause-moves
returns-in_ok-explained-in-Some-clause-moves c =
    let s = setting_under c.args.checked.now c.args.params.now in
    let pushed : OnOk c.map_err.result
    (c.push.new.self.items ≡ c.args.found.now.items ++ c.in_ok-explained-in-Some.explained ∷ []) = search rules in
    let hiring = sym c.take-hiring.ensures.value ∙ c.in-Some.is in
    on_ok_weaker c.map_err.result (λ items m hired stands.
    closes_trip s hired c.args.kind c.args.finish c.args.self.now m c.args.found.now.items c.push.new.self.items
    c.in-Some.hiring c.take-hiring.new.self c.in_ok-explained-in-Some.explained c.saturating_add-self.result
    c.requires.kind hiring c.take-hiring.ensures.after (few_numbers c.args.self.now c.in-Some.hiring 8640000 1 hiring
    c.requires.sound) c.saturating_add-self.ensures stands
    (λ t is. c.in_ok-explained-in-Some.ensures hired t is) items) pushed
