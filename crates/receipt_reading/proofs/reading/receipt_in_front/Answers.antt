use Rattle.std.proofs.Common.{◌≡◌, None, rules}
use Rattle.receipt_reading.proofs.Fronts.{front_none, front_other, front_some}
use Rattle.receipt_reading.proofs.reading.receipt_in_front.Goals as goal

pub returns-in_err-receipt : goal.returns-in_err-receipt
returns-in_err-receipt c =
    let none : c.from_residual.result ≡ None = search rules in
    rw none (front_none c.args.text.now c.in_err-receipt.ensures)

pub returns-in_err-count : goal.returns-in_err-count
returns-in_err-count c =
    let none : c.from_residual-in_err-count.result ≡ None = search rules in
    rw none (front_other c.args.text.now c.in_ok-receipt.receipt c.in_ok-receipt.part c.in_ok-receipt.ensures
    c.in_err-count.ensures)

pub returns : goal.returns
returns c = front_some c.args.text.now c.in_ok-receipt.receipt c.in_ok-receipt.part c.in_ok-count.count
    c.in_ok-receipt.ensures c.in_ok-count.ensures
