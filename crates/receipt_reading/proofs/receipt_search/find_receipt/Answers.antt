use Rattle.std.proofs.Common.{[], ℕ, ◌+◌, ◌∙◌, ◌∷◌, ◌≡◌, ap, length, subst, sym}
use Rattle.receipt_reading.specs.{Printed.{Printed}, ReceiptSearch.{IsReceiptSearch}}
use Rattle.receipt_reading.proofs.SearchSteps.{rest_of, search_at, search_behind, search_found, search_passed}
use Rattle.receipt_reading.proofs.receipt_search.find_receipt.Goals as goal

pub loop-receipt-init : goal.loop-receipt-init
loop-receipt-init c = search_at c.args.ended c.args.text.now

pub returns-in-Some-clause-looks : goal.returns-in-Some-clause-looks
returns-in-Some-clause-looks c =
    let behind =
    search_behind c.args.ended c.args.text.now _ c.loop-receipt.at c.before_letter-at.result c.loop-receipt.invariant
    (rest_of c.loop-receipt.at c.args.text.now) c.before_letter-at.ensures.within c.before_letter-at.ensures.others in
    let len_is : c.len.result ≡ length c.in-Some.receipt.text =
    c.len.ensures.value ∙ ap (λ (r : Printed). length r.text) c.receipt.view_is in
    subst (λ (n : ℕ). IsReceiptSearch c.args.ended c.args.text.now (c.loop-receipt.at + c.before_letter-at.result + n)
    (c.in-Some.receipt ∷ [])) (sym len_is)
    (search_found c.args.ended c.args.text.now _ (c.loop-receipt.at + c.before_letter-at.result) c.in-Some.receipt behind
    (rest_of (c.loop-receipt.at + c.before_letter-at.result) c.args.text.now) c.in-Some.ensures.front
    c.in-Some.ensures.receipt)

pub returns-then-is_open-clause-looks : goal.returns-then-is_open-clause-looks
returns-then-is_open-clause-looks c =
    search_behind c.args.ended c.args.text.now _ c.loop-receipt.at c.before_letter-at.result c.loop-receipt.invariant
    (rest_of c.loop-receipt.at c.args.text.now) c.before_letter-at.ensures.within c.before_letter-at.ensures.others

pub loop-receipt-preserved : goal.loop-receipt-preserved
loop-receipt-preserved c =
    let behind =
    search_behind c.args.ended c.args.text.now _ c.loop-receipt.at c.before_letter-at.result c.loop-receipt.invariant
    (rest_of c.loop-receipt.at c.args.text.now) c.before_letter-at.ensures.within c.before_letter-at.ensures.others in
    let closed = c.is_open.ensures.closed c.if-is_open.false in
    search_passed c.args.ended c.args.text.now _ (c.loop-receipt.at + c.before_letter-at.result) behind
    (rest_of (c.loop-receipt.at + c.before_letter-at.result) c.args.text.now) c.in_default.ensures.none closed.0 closed.1
