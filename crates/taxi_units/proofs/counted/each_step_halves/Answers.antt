use Rattle.taxi_units.proofs.Halvings.{ends_after}
use Rattle.taxi_units.proofs.counted.each_step_halves.Goals as goal

pub returns : goal.returns
returns c = ends_after
