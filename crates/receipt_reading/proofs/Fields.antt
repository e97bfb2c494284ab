-- How long the fields of a row are, and how they are joined.
use Rattle.{std.specs.List.{join_with_byte}, taxi_units.proofs.Laws.{amounts_are_short, numbers_are_short}}
use Rattle.std.{specs.Prelude.{codes, decimal}, proofs.{Common.{refl, sym}, lemmas.List.{append-nil}}}
use Rattle.std.proofs.Common.{[], ℕ, ◌++◌, ◌+◌, ◌<◌, ◌^◌, ◌∙◌, ◌∷◌, ◌≡◌, ◌≤◌, List, ap, append_assoc, arith, length}
use Rattle.receipt_reading.specs.{Common.{kind_text, money_text}, FieldTexts.{behind_commas}}
use Rattle.receipt_reading.specs.{Printed.{Printed}, ReceiptRows.{amount_fields, part_fields, row_of, trip_fields}}

pub number_fits : (value : ℕ) → value < 2 ^ 64 → length (decimal value) ≤ 20
number_fits value small = (numbers_are_short 20 value (omega arith) (omega arith) (omega arith)).1

pub amount_fits : (decimals units : ℕ) → decimals ≤ 3 → units < 2 ^ 64 → length (money_text decimals units) ≤ 21
amount_fits decimals units few small =
    (amounts_are_short decimals 20 units (omega arith) (omega arith) (omega arith)).1

-- fields that are joined are the first one and the others behind commas
joined : (field : List ℕ) (fields : List (List ℕ)) → join_with_byte 44 (field ∷ fields) ≡ field ++ behind_commas fields
joined field [] = sym (append-nil field)
joined field (next ∷ fields) = ap (λ (t : List ℕ). field ++ 44 ∷ t) (joined next fields)

commas-append : (a b : List (List ℕ)) → behind_commas (a ++ b) ≡ behind_commas a ++ behind_commas b
commas-append [] b = refl
commas-append (field ∷ a) b =
    ap (λ (t : List ℕ). 44 ∷ (field ++ t)) (commas-append a b)
    ∙ ap (λ (t : List ℕ). 44 ∷ t) (sym (append_assoc field (behind_commas a) (behind_commas b)))

-- a field more
pub field_more : (line : List ℕ) (fields : List (List ℕ)) (field : List ℕ) {before now : List ℕ}
    → before ≡ line ++ behind_commas fields → now ≡ before ++ 44 ∷ field
    → now ≡ line ++ behind_commas (fields ++ field ∷ [])
field_more line fields field so_far is =
    is ∙ (ap (λ (t : List ℕ). t ++ 44 ∷ field) so_far ∙ (append_assoc line (behind_commas fields) (44 ∷ field)
    ∙ ap (λ (t : List ℕ). line ++ t) (ap (λ (t : List ℕ). behind_commas fields ++ 44 ∷ t) (sym (append-nil field))
    ∙ sym (commas-append fields (field ∷ [])))))

-- a row is written in the parts of the code
pub row_is : (it : Printed) → row_of it ≡ decimal it.receipt.number ++ 44 ∷ (kind_text it.receipt.kind
    ++ (behind_commas (part_fields it.part)
    ++ (behind_commas (trip_fields it.receipt) ++ behind_commas (amount_fields it.receipt))))
row_is it =
    let number = decimal it.receipt.number in
    let kind = kind_text it.receipt.kind in
    let part = part_fields it.part in
    let trip = trip_fields it.receipt in
    let amounts = amount_fields it.receipt in
    joined number (kind ∷ (part ++ (trip ++ amounts)))
    ∙ ap (λ (t : List ℕ). number ++ 44 ∷ (kind ++ t)) (commas-append part (trip ++ amounts)
    ∙ ap (λ (t : List ℕ). behind_commas part ++ t) (commas-append trip amounts))
