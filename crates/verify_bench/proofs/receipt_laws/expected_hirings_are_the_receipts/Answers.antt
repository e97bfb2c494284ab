use Rattle.verify_bench.proofs.{ReceiptList.{expected_are_receipts}, ShortExplanations.{expected_are_short}}
use Rattle.verify_bench.proofs.receipt_laws.expected_hirings_are_the_receipts.Goals as goal

pub returns : goal.returns
returns c = record { receipts = expected_are_receipts; ticks = expected_are_short }
