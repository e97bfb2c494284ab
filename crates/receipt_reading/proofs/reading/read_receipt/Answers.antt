use Rattle.std.proofs.Common.{◌≡◌, None, Some, arith, length, rules}
use Rattle.receipt_reading.proofs.Fronts.{same_length, whole_other, whole_some}
use Rattle.receipt_reading.proofs.reading.read_receipt.Goals as goal

pub returns-in_err-receipt : goal.returns-in_err-receipt
returns-in_err-receipt c =
    let none : c.from_residual.result ≡ None = search rules in
    rw none (whole_other c.args.text.now None c.in_err-receipt.ensures (λ r p e. absurd cc))

pub returns-then-count-text : goal.returns-then-count-text
returns-then-count-text c = whole_some c.args.text.now c.in_ok-receipt.receipt c.in_ok-receipt.part
    c.in_ok-receipt.count c.in_ok-receipt.ensures c.if-count-text.true

pub returns-else-count-text : goal.returns-else-count-text
returns-else-count-text c =
    whole_other c.args.text.now (Some (c.in_ok-receipt.receipt, c.in_ok-receipt.part, c.in_ok-receipt.count))
    c.in_ok-receipt.ensures (λ r p e.
    let long : c.in_ok-receipt.count ≡ length c.args.text.now = same_length _ r _ p _ _ e in
    omega arith)
