use Rattle.std.proofs.Common.{ℕ, ◌<◌, Err, Ok, OnOk, Result, subst}
use Rattle.verify_bench.proofs.Benches.{moves_extra}
use Rattle.verify_bench.proofs.bench_meter.BenchMeter.add_up_to.Goals as goal

-- what follows from two facts of a call that went well
on_ok_both : {T E P Q S : Type 0} (r : Result T E) → (P → Q → S) → OnOk r P → OnOk r Q → OnOk r S
on_ok_both (Ok x) follows p q = follows p q
on_ok_both (Err e) follows p q = tt

pub returns-else-times-supplement-clause-moves : goal.returns-else-times-supplement-clause-moves
returns-else-times-supplement-clause-moves c =
    on_ok_both c.add_extra.result (λ others extras s trip found m hired next stands.
    moves_extra s trip found hired next c.args.self.now m c.args.number c.args.supplement c.in-Some.hiring
    c.add_extra.new.self c.in-Some.is (subst (λ (count : ℕ). count < c.args.supplement.max) c.times.ensures
    c.if-times-supplement.false) others extras stands)
    c.add_extra.ensures.others c.add_extra.ensures.extras
