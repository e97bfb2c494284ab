use Rattle.std.proofs.lemmas.Result.{on_ok_weaker}
use Rattle.verify_bench.proofs.bench_meter.BenchMeter.follow.Goals as goal

pub returns-in-One-clause-carries : goal.returns-in-One-clause-carries
returns-in-One-clause-carries c =
    on_ok_weaker c.carry.result (λ goes. rw c.in-One.is goes) c.carry.ensures.carries

pub returns-in-Many-clause-carries : goal.returns-in-Many-clause-carries
returns-in-Many-clause-carries c =
    on_ok_weaker c.intervals.result (λ goes. rw c.in-Many.is goes) c.intervals.ensures.carries
