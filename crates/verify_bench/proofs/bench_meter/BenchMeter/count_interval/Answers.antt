use Rattle.std.proofs.Common.{ℕ, ◌∙◌, ◌≡◌, ap}
use Rattle.verify_bench.specs.{Common.{context_of, context_on, local_at}, Settings.{setting_under}}
use Rattle.verify_bench.proofs.Benches.{counted_hired}
use Rattle.verify_bench.proofs.bench_meter.BenchMeter.count_interval.Goals as goal

pub returns-in_ok-add_hired-in-Hired-clause-stands : goal.returns-in_ok-add_hired-in-Hired-clause-stands
returns-in_ok-add_hired-in-Hired-clause-stands c m hired stands =
    let s = setting_under c.args.checked.now c.args.params.now in
    let x : c.context-x.result ≡ context_of s m =
    c.context-x.ensures m hired stands ∙ ap (λ (second : ℕ). context_on s (local_at s second) m) stands.began in
    rw (counted_hired s hired c.args.self.now m c.context-x.result stands c.in-Hired.is x) at
    (c.in_ok-add_hired-in-Hired.ensures.stands m hired stands)
