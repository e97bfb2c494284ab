-- A receipt that was written is read again.
use Rattle.std.proofs.Common.{[], ℕ, ◌++◌, ◌∙◌, ◌∷◌, ◌≡◌, List, Some, ap, append_assoc, arith, drop, refl, sym}
use Rattle.{std.proofs.lemmas.List.{append-nil}, receipt_text.proofs.OptionalLines.{optional_lines_again}}
use Rattle.receipt_text.specs.{AmountLines.{optional_lines}, Common.{IsReceipt, Receipt}, Spelling.{IsSpelled}}
use Rattle.receipt_text.specs.{Lines.{receipt_at}, Part.{IsPart, Part}}
use Rattle.receipt_text.specs.Receipts.{body_text, calculation_text, fare_text, heading_text, in_front, last_text}
use Rattle.receipt_text.specs.Receipts.{part_text, receipt_text, supplements_text, total_text, trip_text}
use Rattle.receipt_text.proofs.Groups.{calculation_again, heading_again, part_again, sums_again, trip_again}

-- the lines of the amounts begin with an F
first_byte : (r : Receipt) (rest : List ℕ) → (tail : List ℕ) × (fare_text r ++ rest ≡ 70 ∷ tail)
unfolding fare_text
first_byte r rest = (drop 1 (fare_text r ++ rest), refl)

-- what was written is read, whatever stands after it
pub receipt_again : (r : Receipt) (p : Part) (more : List ℕ) → IsReceipt r → IsPart p
    → receipt_at (receipt_text r p ++ more) ≡ Some (r, p)
unfolding receipt_at receipt_text body_text last_text
receipt_again r p more is part_is =
    let t₆ = total_text r ++ more in
    let t₅ = fare_text r ++ (supplements_text r ++ t₆) in
    let t₄ = in_front r.decimals (optional_lines r) t₅ in
    let t₃ = calculation_text r ++ t₄ in
    let t₂ = trip_text r ++ t₃ in
    let text : (heading_text r.number r.kind ++ (part_text p ++ (trip_text r ++ (calculation_text r
    ++ in_front r.decimals (optional_lines r) (fare_text r ++ (supplements_text r ++ total_text r)))))) ++ more
    ≡ heading_text r.number r.kind ++ (part_text p ++ t₂) = simp append_assoc in
    let heading = heading_again r.number r.kind (part_text p ++ t₂) (omega (arith, is.number)) is.kind in
    let part = part_again p t₂ part_is in
    let trip = trip_again r t₃ is in
    let calculation = calculation_again r t₄ is in
    let first = first_byte r (supplements_text r ++ t₆) in
    let optional = optional_lines_again r t₅ first.0 is first.1 in
    let sums = sums_again r t₆ is in
    ap receipt_at text ∙ rw (heading, part, trip, calculation, optional, sums) refl

pub spelled_again : (text : List ℕ) (r : Receipt) (p : Part) → IsSpelled text r p → receipt_at text ≡ Some (r, p)
spelled_again text r p h =
    ap receipt_at (h.text_is ∙ sym (append-nil (receipt_text r p))) ∙ receipt_again r p [] h.receipt_is h.part_is
