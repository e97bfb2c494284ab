-- A receipt at the front of a text.
use Rattle.std.{specs.Prelude.{IsOk, OnOk}, proofs.{Common.{sym, take}, Math.Seq.{take-append_seam}}}
use Rattle.std.proofs.Common.{ℕ, ◌++◌, ◌∙◌, ◌≡◌, ◌≤◌, Err, List, Ok, Result, ap, arith, length, length-append, subst}
use Rattle.{receipt_text.proofs.Laws.{short_texts}, receipt_reading.specs.Common.{IsReceiptText, Part, Receipt}}
use Rattle.receipt_reading.specs.{Front.{IsInFront}, Printed.{IsPrinted, Printed}}

-- what holds on success holds of what has succeeded
pub succeeded : {T E P : Type 0} (r : Result T E) → IsOk r → OnOk r P → P
succeeded (Ok x) is h = h
succeeded (Err e) is h = absurd cc

-- a printed receipt with which a text begins is a receipt in front
pub in_front_of : (text : List ℕ) (r : Printed) (behind : List ℕ) → text ≡ r.text ++ behind → (h : IsPrinted r)
    → IsInFront text r.receipt r.part (length r.text)
in_front_of text r behind e h = record {
  within = omega (arith, ap length e, length-append r.text behind);
  is = subst (λ (t : List ℕ). IsReceiptText t r.receipt r.part)
      (sym (ap (take (length r.text)) e ∙ take-append_seam r.text behind)) h.is;
}

-- a receipt in front has few bytes
pub few_in_front : (text : List ℕ) (receipt : Receipt) (part : Part) (count : ℕ) → IsInFront text receipt part count
    → length (take count text) ≤ 480
few_in_front text receipt part count h = short_texts (take count text) receipt part h.is

-- a receipt in front, as it is printed
pub printed_of_front : (text written : List ℕ) (receipt : Receipt) (part : Part) (count : ℕ)
    → IsInFront text receipt part count → written ≡ take count text
    → IsPrinted (record { text = written; receipt = receipt; part = part })
printed_of_front text written receipt part count h e =
    record { is = subst (λ (t : List ℕ). IsReceiptText t receipt part) (sym e) h.is }
