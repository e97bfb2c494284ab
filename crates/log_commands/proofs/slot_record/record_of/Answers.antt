use Rattle.std.proofs.Common.{[], ℕ, ◌≡◌, List, None, ap, arith, length, refl, rules, subst}
use Rattle.{receipt_text.proofs.Laws.{short_texts}, log_commands.proofs.Spelled.{read_record, record_exact}}
use Rattle.log_commands.specs.Common.{IsReceiptText, Part}
use Rattle.log_commands.proofs.slot_record.record_of.Goals as goal

pub returns-in_err-receipt : goal.returns-in_err-receipt
returns-in_err-receipt c =
    let none : c.from_residual.result ≡ None = search rules in
    rw none (λ it. (
      λ e. absurd cc,
      λ h.
          let told = (c.in_err-receipt.ensures h.is.receipt h.is.part).1
          (subst (λ (t : List ℕ). IsReceiptText t h.is.receipt h.is.part) h.text_is h.is.is) in
          absurd cc,
    ))

pub unwrap-requires : goal.unwrap-requires
unwrap-requires c =
    let empty : c.new-copy.result.items ≡ [] = search rules in
    let is = (c.in_ok-receipt.ensures c.in_ok-receipt.receipt c.in_ok-receipt.part).0 refl in
    c.try_extend_from_slice.ensures.variant.1
    (omega (arith, ap length empty, short_texts c.args.text.now c.in_ok-receipt.receipt c.in_ok-receipt.part is))

pub returns : goal.returns
returns c =
    let empty : c.new-copy.result.items ≡ [] = search rules in
    let is = (c.in_ok-receipt.ensures c.in_ok-receipt.receipt c.in_ok-receipt.part).0 refl in
    let items : c.try_extend_from_slice.new.self.items ≡ c.args.text.now = search rules in
    record_exact c.args.text.now _
    (read_record c.args.text.now c.try_extend_from_slice.new.self.items c.part.inside.taxi.items c.in_ok-receipt.receipt
    c.in_ok-receipt.part is items (ap (λ (p : Part). p.taxi) c.part.view_is))
