use Rattle.std.proofs.{Common.{arith}, lemmas.Grind.{common_steps}}
use Rattle.meter_states.proofs.fitting.fits.Goals as goal

pub returns-then-trip-measure-clause-value : goal.returns-then-trip-measure-clause-value
returns-then-trip-measure-clause-value g c = grind (arith, common_steps) steps 4000000
