use Rattle.verify_bench.specs.Common.{context_now}
use Rattle.verify_bench.proofs.teller.Teller.key_told.Goals as goal

pub returns-in-Hire-ForHire : goal.returns-in-Hire-ForHire
returns-in-Hire-ForHire c = λ s m behind hired stands there kept.
    let here = c.in-Hire-ForHire in
    rw (here.is-0, here.is-1) (c.hiring.ensures s m behind (context_now s m)
    (rw (here.is-0, here.is-1) at stands) there kept)
