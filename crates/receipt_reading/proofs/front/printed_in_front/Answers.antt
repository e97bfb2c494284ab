use Rattle.std.proofs.Common.{[], ℕ, ◌++◌, ◌∙◌, ◌≡◌, List, None, ap, arith, length, refl, rules, take}
use Rattle.receipt_reading.proofs.FrontReceipts.{few_in_front, in_front_of, printed_of_front, succeeded}
use Rattle.receipt_reading.proofs.front.printed_in_front.Goals as goal

pub returns-in_err-receipt-clause-none : goal.returns-in_err-receipt-clause-none
returns-in_err-receipt-clause-none c =
    let none : c.from_residual.result ≡ None = search rules in
    rw none (λ r behind e h.
    let told =
    (c.in_err-receipt.ensures r.receipt r.part (length r.text)).1 (in_front_of c.args.text.now r behind e h) in
    absurd cc)

pub split_at-requires : goal.split_at-requires
split_at-requires c =
    ((c.in_ok-receipt.ensures c.in_ok-receipt.receipt c.in_ok-receipt.part c.in_ok-receipt.count).0 refl).within

pub unwrap-requires : goal.unwrap-requires
unwrap-requires c =
    let front = (c.in_ok-receipt.ensures c.in_ok-receipt.receipt c.in_ok-receipt.part c.in_ok-receipt.count).0 refl in
    let few = few_in_front c.args.text.now c.in_ok-receipt.receipt c.in_ok-receipt.part c.in_ok-receipt.count front in
    let empty : c.new-text.result.items ≡ [] = search rules in
    c.try_extend_from_slice.ensures.variant.1 (omega (arith, few, ap length empty, ap length c.split_at.ensures.front))

pub returns-clause-receipt : goal.returns-clause-receipt
returns-clause-receipt c =
    let front = (c.in_ok-receipt.ensures c.in_ok-receipt.receipt c.in_ok-receipt.part c.in_ok-receipt.count).0 refl in
    let empty : c.new-text.result.items ≡ [] = search rules in
    let few = few_in_front c.args.text.now c.in_ok-receipt.receipt c.in_ok-receipt.part c.in_ok-receipt.count front in
    let fits = c.try_extend_from_slice.ensures.variant.1
    (omega (arith, few, ap length empty, ap length c.split_at.ensures.front)) in
    let items = succeeded c.try_extend_from_slice.result fits c.try_extend_from_slice.ensures.ok in
    let text_is : c.try_extend_from_slice.new.self.items ≡ take c.in_ok-receipt.count c.args.text.now =
    items ∙ (ap (λ (l : List ℕ). l ++ c.split_at.result.0.now) empty ∙ c.split_at.ensures.front) in
    printed_of_front c.args.text.now c.try_extend_from_slice.new.self.items c.in_ok-receipt.receipt c.in_ok-receipt.part
    c.in_ok-receipt.count front text_is
