use Rattle.{std.specs.Prelude.{codes, decimal}, receipt_reading.specs.{Common.{kind_text}, FieldTexts.{behind_commas}}}
use Rattle.std.proofs.Common.{[], ℕ, ◌++◌, ◌∙◌, ◌∷◌, ◌≡◌, List, ap, append_assoc, rules, subst, sym}
use Rattle.receipt_reading.specs.{Printed.{Printed}, ReceiptRows.{amount_fields, part_fields, row_of, trip_fields}}
use Rattle.receipt_reading.proofs.Fields.{row_is}
use Rattle.receipt_reading.proofs.receipt_rows.row_of.Goals as goal

pub returns : goal.returns
returns c =
    let it : Printed = record { text = c.it.inside.text.items; receipt = c.it.inside.receipt; part = c.it.inside.part } in
    let empty : c.new-line.result.items ≡ [] = search rules in
    let line : c.push_bytes-2.new.line.items ≡ (decimal it.receipt.number ++ 44 ∷ (kind_text it.receipt.kind
    ++ (behind_commas (part_fields it.part)
    ++ (behind_commas (trip_fields it.receipt) ++ behind_commas (amount_fields it.receipt))))) ++ codes "\n" =
    rw (
      c.push_bytes-2.ensures.text,
      c.push_amounts.ensures.text,
      c.push_trip.ensures.text,
      c.push_part.ensures.text,
      c.push_kind.ensures.text,
      c.push_bytes.ensures.text,
      c.push_number.ensures.text,
      empty,
    ) (simp append_assoc) in
    subst (λ (p : Printed). c.push_bytes-2.new.line.items ≡ row_of p ++ codes "\n") c.it.view_is
    (line ∙ ap (λ (t : List ℕ). t ++ codes "\n") (sym (row_is it)))
