use Rattle.std.proofs.{Common.{arith, refl, sym}, lemmas.List.{append-nil}}
use Rattle.receipt_text.specs.Receipts.{optional_text}
use Rattle.receipt_text.proofs.sums.put_optional.Goals as goal

pub returns-then-amount-eq0-clause-variant : goal.returns-then-amount-eq0-clause-variant
unfolding optional_text
returns-then-amount-eq0-clause-variant c = rw c.if-amount-eq0.true (λ ok. omega arith, λ fits. refl)

pub returns-then-amount-eq0-clause-ok : goal.returns-then-amount-eq0-clause-ok
unfolding optional_text
returns-then-amount-eq0-clause-ok c = rw c.if-amount-eq0.true (sym (append-nil c.args.line.now.items))
