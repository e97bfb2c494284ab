use Rattle.std.proofs.Common.{[], ℕ, ◌++◌, ◌∙◌, ◌≡◌, List, ap, rules, sym, take}
use Rattle.receipt_text.{specs.Receipts.{receipt_text}, proofs.Laws.{receipts_are_their_texts}}
use Rattle.receipt_reading.proofs.reading.length_in_front.Goals as goal

pub returns-in-Ok : goal.returns-in-Ok
returns-in-Ok c = λ count.
    let law = c.length_of_front.ensures count in
    let same = receipts_are_their_texts (take count c.args.text.now) c.args.receipt.now c.args.part.now in
    let text = receipt_text c.args.receipt.now c.args.part.now in
    let empty : c.new-spelled.result.items ≡ [] = search rules in
    let text_is : c.as_slice.result.now ≡ text =
    c.as_slice.ensures.value ∙ (c.in-Ok.ensures.ok ∙ ap (λ (l : List ℕ). l ++ text) empty) in (
      λ e.
          let h = law.0 e in
          record {
            within = h.0;
            is = same.1 (record {
              receipt_is = c.requires.receipt;
              part_is = c.requires.part;
              text_is = h.1 ∙ text_is;
            });
          },
      λ h. law.1 (h.within, (same.0 h.is).text_is ∙ sym text_is),
    )
