use Rattle.std.proofs.Common.{length}
use Rattle.receipt_reading.proofs.digest.+fill.Given as goal

abbrev pub decreases-fill : goal.decreases-fill
decreases-fill l = length l.places.now
