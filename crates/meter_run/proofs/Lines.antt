-- Lines that are printed: which text they have, and that it isn't empty.
use Rattle.std.{specs.{Fmt.{decimal}, Prelude.{codes}}, proofs.Common.{sym}}
use Rattle.std.proofs.Common.{[], ℕ, ◌++◌, ◌<◌, ◌∙◌, ◌≡◌, ◌≢◌, ◌≤◌, List, ap, arith, length, length-append, refl, subst}
use Rattle.taxi_units.specs.declared.{event.Why.{Why}, receipt.Receipt.{Receipt}}
use Rattle.receipt_text.specs.{Part.{Part}, Receipts.{body_text, heading_text, kind_text, part_text, receipt_text}}
use Rattle.receipt_text.specs.{Spelling.{IsSpelled}, Texts.{amounts_text, display_line, place_text, why_text}}
use Rattle.receipt_text.proofs.Laws.{receipts_are_their_texts, short_texts}
use Rattle.meter_run.specs.Common.{Display, ForHire, Hired, Off, Operating, Stopped, display_text, refusal_text}

-- a line has the text that was put into it when it was empty
pub has_text : (old new line text : List ℕ) → line ≡ new → new ≡ old ++ text → old ≡ [] → line ≡ text
has_text old new line text value is none = value ∙ is ∙ ap (λ (xs : List ℕ). xs ++ text) none

-- it can be printed if the text can
pub fits_line : (old new line text : List ℕ) → line ≡ new → new ≡ old ++ text → old ≡ [] → 0 < length text
    → length text ≤ 512 → record { some : 0 < length line; few : length line ≤ 512 }
fits_line old new line text value is none some few =
    let same : text ≡ line = sym (has_text old new line text value is none) in
    record {
      some = subst (λ (bytes : List ℕ). 0 < length bytes) same some;
      few = subst (λ (bytes : List ℕ). length bytes ≤ 512) same few;
    }

line_some : (operating : Operating) (d : Display) → operating ≢ Off → 0 < length (display_line operating d)
line_some Off d on = absurd (on refl)
line_some ForHire d on = omega (arith, length-append (codes "FOR HIRE") (place_text d ++ codes "\n"))
line_some Hired d on = omega (arith, length-append (codes "HIRED") (place_text d ++ (amounts_text d ++ codes "\n")))
line_some Stopped d on = omega (arith, length-append (codes "STOPPED") (place_text d ++ (amounts_text d ++ codes "\n")))

pub display_some : (d : Display) → d.operating ≢ Off → 0 < length (display_text d)
display_some d on = line_some d.operating d on

pub refusal_some : (why : Why) → 0 < length (refusal_text why)
refusal_some why = omega (arith, length-append (codes "REFUSED ") (why_text why ++ codes "\n"))

-- a receipt begins with its heading
heading_some : (r : Receipt) → 0 < length (heading_text r.number r.kind)
unfolding heading_text
heading_some r = omega (
  arith,
  length-append (codes "RECEIPT ") (decimal r.number ++ (codes "\nKIND " ++ (kind_text r.kind ++ codes "\n"))),
)

pub receipt_some : (r : Receipt) (part : Part) → 0 < length (receipt_text r part)
unfolding receipt_text
receipt_some r part =
    omega (arith, heading_some r, length-append (heading_text r.number r.kind) (part_text part ++ body_text r))

-- an empty line takes it
pub receipt_few : (r : Receipt) (part : Part) → IsSpelled (receipt_text r part) r part
    → length (receipt_text r part) ≤ 512
receipt_few r part spelled = omega (
  arith,
  short_texts (receipt_text r part) r part ((receipts_are_their_texts (receipt_text r part) r part).1 spelled),
)
