use Rattle.std.proofs.Common.{[], ◌-◌, length}
use Rattle.receipt_reading.specs.ReceiptSearch.{IsReceiptSearch}
use Rattle.receipt_reading.proofs.receipt_search.find_receipt.Given as goal

abbrev pub invariant-loop-receipt : goal.invariant-loop-receipt
invariant-loop-receipt l = IsReceiptSearch l.ended l.text l.at []

abbrev pub decreases-loop-receipt : goal.decreases-loop-receipt
decreases-loop-receipt l = length l.text - l.at
