use Rattle.std.proofs.Common.{arith, refl}
use Rattle.interval_clock.proofs.clock.Clock.set.Goals as goal

pub returns-then-second-self-clause-refused : goal.returns-then-second-self-clause-refused
returns-then-second-self-clause-refused c = (λ err. (c.if-busy.true, omega arith), λ both. refl)
