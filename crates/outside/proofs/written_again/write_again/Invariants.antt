use Rattle.std.proofs.Common.{◌-◌}
use Rattle.outside.proofs.written_again.write_again.Given as goal

abbrev pub decreases-loop-at : goal.decreases-loop-at
decreases-loop-at g l = l.places.end - l.at
