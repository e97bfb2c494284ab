use Rattle.std.proofs.Common.{length}
use Rattle.receipt_reading.proofs.ranges.+are_characters.Given as goal

abbrev pub decreases-are_characters : goal.decreases-are_characters
decreases-are_characters l = length l.text.now
