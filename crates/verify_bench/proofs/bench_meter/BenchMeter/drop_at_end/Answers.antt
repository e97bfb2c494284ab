use Rattle.std.proofs.{Common.{◌∙◌, ◌≢◌, rules}, lemmas.Result.{on_ok_weaker}}
use Rattle.verify_bench.{specs.{Common.{Off}, Settings.{setting_under}}, proofs.BenchSupply.{ended_on}}
use Rattle.verify_bench.proofs.bench_meter.BenchMeter.drop_at_end.Goals as goal

pub returns-in-ForHire : goal.returns-in-ForHire
returns-in-ForHire c =
    let s = setting_under c.args.checked.now c.args.params.now in
    let on : c.args.self.now.operating ≢ Off = search rules in
    on_ok_weaker c.go_down.result (λ goes m hired stands.
    rw (ended_on s m.operating m (λ off. on (stands.operating ∙ off))) (goes m hired stands))
    c.go_down.ensures.moves
