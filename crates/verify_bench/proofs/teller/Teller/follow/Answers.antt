use Rattle.std.proofs.lemmas.Result.{on_ok_weaker}
use Rattle.verify_bench.proofs.teller.Teller.follow.Goals as goal

pub returns-in-One-clause-tells : goal.returns-in-One-clause-tells
returns-in-One-clause-tells c = on_ok_weaker c.one.result (λ goes. rw c.in-One.is goes) c.one.ensures.tells

pub returns-in-Many-clause-tells : goal.returns-in-Many-clause-tells
returns-in-Many-clause-tells c =
    on_ok_weaker c.intervals.result (λ goes. rw c.in-Many.is goes) c.intervals.ensures.tells
