use Rattle.std.proofs.Common.{[], ℕ, ◌+◌, ◌∙◌, ◌∷◌, ◌≡◌, ap, length, subst, sym}
use Rattle.log_commands.specs.{ReceiptSearch.{IsReceiptSearch}, Record.{Record}}
use Rattle.log_commands.proofs.SearchSteps.{rest_of, search_at, search_behind, search_found, search_passed}
use Rattle.log_commands.proofs.receipt_search.find_receipt.Goals as goal

pub loop-record-init : goal.loop-record-init
loop-record-init c = search_at c.args.ended c.args.text.now

pub returns-in-Some-clause-looks : goal.returns-in-Some-clause-looks
returns-in-Some-clause-looks c =
    let behind =
    search_behind c.args.ended c.args.text.now _ c.loop-record.at c.before_letter-at.result c.loop-record.invariant
    (rest_of c.loop-record.at c.args.text.now) c.before_letter-at.ensures.within c.before_letter-at.ensures.others in
    let len_is : c.len.result ≡ length c.in-Some.record.text =
    c.len.ensures.value ∙ ap (λ (r : Record). length r.text) c.record.view_is in
    subst (λ (n : ℕ). IsReceiptSearch c.args.ended c.args.text.now (c.loop-record.at + c.before_letter-at.result + n)
    (c.in-Some.record ∷ [])) (sym len_is)
    (search_found c.args.ended c.args.text.now _ (c.loop-record.at + c.before_letter-at.result) c.in-Some.record behind
    (rest_of (c.loop-record.at + c.before_letter-at.result) c.args.text.now) c.in-Some.ensures.front
    c.in-Some.ensures.record)

pub returns-then-is_open-clause-looks : goal.returns-then-is_open-clause-looks
returns-then-is_open-clause-looks c =
    search_behind c.args.ended c.args.text.now _ c.loop-record.at c.before_letter-at.result c.loop-record.invariant
    (rest_of c.loop-record.at c.args.text.now) c.before_letter-at.ensures.within c.before_letter-at.ensures.others

pub loop-record-preserved : goal.loop-record-preserved
loop-record-preserved c =
    let behind =
    search_behind c.args.ended c.args.text.now _ c.loop-record.at c.before_letter-at.result c.loop-record.invariant
    (rest_of c.loop-record.at c.args.text.now) c.before_letter-at.ensures.within c.before_letter-at.ensures.others in
    let closed = c.is_open.ensures.closed c.if-is_open.false in
    search_passed c.args.ended c.args.text.now _ (c.loop-record.at + c.before_letter-at.result) behind
    (rest_of (c.loop-record.at + c.before_letter-at.result) c.args.text.now) c.in_default.ensures.none closed.0 closed.1
