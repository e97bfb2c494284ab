use Rattle.{std.specs.Prelude.{codes, decimal}, receipt_text.specs.AmountLines.{total_of}}
use Rattle.std.proofs.{Common.{[], ℕ, ◌++◌, ◌∙◌, ◌∷◌, List, ap, append_assoc, sym}, lemmas.List.{append-nil}}
use Rattle.receipt_reading.{specs.{Common.{money_text}, ReceiptRows.{optional_field}}, proofs.Fields.{field_more}}
use Rattle.receipt_reading.proofs.receipt_rows.push_amounts.Goals as goal

pub returns-clause-text : goal.returns-clause-text
unfolding total_of
returns-clause-text c =
    let r = c.args.receipt.now in
    let line = c.args.line.now.items in
    let initial = money_text r.decimals r.initial in
    let steps = decimal r.steps in
    let step = money_text r.decimals r.step in
    let minimum = optional_field r.decimals r.minimum in
    let fare = money_text r.decimals r.fare in
    let supplements = money_text r.decimals r.supplements in
    let total = money_text r.decimals (total_of r) in
    field_more line (initial ∷ steps ∷ step ∷ minimum ∷ fare ∷ supplements ∷ []) total
    (field_more line (initial ∷ steps ∷ step ∷ minimum ∷ fare ∷ []) supplements
    (field_more line (initial ∷ steps ∷ step ∷ minimum ∷ []) fare
    (field_more line (initial ∷ steps ∷ step ∷ []) minimum
    (field_more line (initial ∷ steps ∷ []) step
    (field_more line (initial ∷ []) steps
    (field_more line [] initial (sym (append-nil line)) c.push_amount.ensures.text) c.push_figure.ensures.text)
    c.push_amount-2.ensures.text) c.push_optional.ensures.text) c.push_amount-3.ensures.text)
    c.push_amount-4.ensures.text)
    (c.push_money.ensures.text ∙ (ap (λ (t : List ℕ). t ++ total) c.push_bytes.ensures.text
    ∙ append_assoc c.push_amount-4.new.line.items (codes ",") total))
