use Rattle.std.proofs.Common.{refl}
use Rattle.verify_bench.proofs.pricing.is_slow.Goals as goal

pub returns : goal.returns
returns c = rw c.get.ensures.value refl
