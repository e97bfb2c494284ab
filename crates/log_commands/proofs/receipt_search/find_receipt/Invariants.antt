use Rattle.std.proofs.Common.{[], ◌-◌, length}
use Rattle.log_commands.specs.ReceiptSearch.{IsReceiptSearch}
use Rattle.log_commands.proofs.receipt_search.find_receipt.Given as goal

abbrev pub invariant-loop-record : goal.invariant-loop-record
invariant-loop-record l = IsReceiptSearch l.ended l.text l.at []

abbrev pub decreases-loop-record : goal.decreases-loop-record
decreases-loop-record l = length l.text - l.at
