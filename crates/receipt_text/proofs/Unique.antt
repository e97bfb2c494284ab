-- A text is one receipt.
use Rattle.std.{specs.Prelude.{codes}, proofs.{Common.{refl, subst, sym}, lemmas.List.{append-nil}}}
use Rattle.std.proofs.Common.{[], ℕ, ◌++◌, ◌∙◌, ◌∷◌, ◌≡◌, ◌≤◌, List, Option, Some, ap, arith, length, length-append}
use Rattle.receipt_text.specs.{Common.{Receipt}, Lines.{receipt_at}, Part.{Part}}
use Rattle.receipt_text.{specs.{Grammar.{IsReceiptText}, Receipts.{receipt_text}}, proofs.Lengths.{receipts_are_short}}
use Rattle.receipt_text.proofs.{GrammarTexts.{receipts_are_their_texts}, ReadAgain.{receipt_again, spelled_again}}

same_pair : (a b : Receipt) (c d : Part) → ◌≡◌ {A = Option (Receipt × Part)} (Some (a, c)) (Some (b, d))
    → (a ≡ b) × (c ≡ d)
same_pair a b c d e =
    let same : ◌≡◌ {A = Receipt × Part} (a, c) (b, d) = cc in
    (ap (λ (x : Receipt × Part). x.0) same, ap (λ (x : Receipt × Part). x.1) same)

one_pair : (text more : List ℕ) (a b : Receipt) (c d : Part) → IsReceiptText text a c → IsReceiptText (text ++ more) b d
    → (a ≡ b) × (c ≡ d)
one_pair text more a b c d h k =
    let first = (receipts_are_their_texts text a c).0 h in
    let second = (receipts_are_their_texts (text ++ more) b d).0 k in
    let read : receipt_at (text ++ more) ≡ Some (a, c) =
    ap (λ (t : List ℕ). receipt_at (t ++ more)) first.text_is ∙ receipt_again a c more first.receipt_is first.part_is in
    same_pair a b c d (sym read ∙ spelled_again (text ++ more) b d second)

pub one_receipt : (text : List ℕ) (a b : Receipt) (c d : Part) → IsReceiptText text a c → IsReceiptText text b d → a ≡ b
one_receipt text a b c d h k =
    (one_pair text [] a b c d h (subst (λ (t : List ℕ). IsReceiptText t b d) (sym (append-nil text)) k)).0

pub one_part : (text : List ℕ) (a b : Receipt) (c d : Part) → IsReceiptText text a c → IsReceiptText text b d → c ≡ d
one_part text a b c d h k =
    (one_pair text [] a b c d h (subst (λ (t : List ℕ). IsReceiptText t b d) (sym (append-nil text)) k)).1

none_left : (more : List ℕ) → length more ≡ 0 → more ≡ []
none_left [] e = refl
none_left (x ∷ xs) e = absurd (omega arith)

pub no_beginning : (text more : List ℕ) (a b : Receipt) (c d : Part) → IsReceiptText text a c
    → IsReceiptText (text ++ more) b d → more ≡ []
no_beginning text more a b c d h k =
    let same = one_pair text more a b c d h k in
    let first = (receipts_are_their_texts text a c).0 h in
    let second = (receipts_are_their_texts (text ++ more) b d).0 k in
    let texts : receipt_text a c ≡ receipt_text b d = rw (same.0, same.1) refl in
    let long : text ++ more ≡ text = second.text_is ∙ (sym texts ∙ sym first.text_is) in
    none_left more (omega (arith, length-append text more, ap length long))

pub short_texts : (text : List ℕ) (receipt : Receipt) (part : Part) → IsReceiptText text receipt part
    → length text ≤ 480
short_texts text receipt part h =
    let is = (receipts_are_their_texts text receipt part).0 h in
    omega (arith, ap length is.text_is, receipts_are_short receipt part is.receipt_is is.part_is)

pub first_word : (text : List ℕ) (receipt : Receipt) (part : Part) → IsReceiptText text receipt part
    → (rest : List ℕ) × (text ≡ codes "RECEIPT " ++ rest)
first_word text receipt part h = (h.lines.value ++ 10 ∷ h.lines.rest, h.lines.text_is)
