-- A receipt at the front of a text, whatever stands after it.
use Rattle.std.proofs.Common.{ℕ, ◌++◌, ◌↔◌, ◌∙◌, ◌≡◌, List, None, Option, Some, ap, arith, drop, length, refl, subst}
use Rattle.std.proofs.{Common.{sym, take}, Math.Seq.{take-length}, lemmas.List.{take-append-drop}}
use Rattle.receipt_text.{specs.Lines.{receipt_at}, proofs.Laws.{receipt_again, receipts_are_their_texts}}
use Rattle.receipt_reading.specs.{Common.{IsReceiptText, Part, Receipt}, Front.{IsInFront}}

-- the receipt in front is the one that is read
front_read : (text : List ℕ) (r : Receipt) (p : Part) (n : ℕ) → IsInFront text r p n → receipt_at text ≡ Some (r, p)
front_read text r p n h =
    let is = (receipts_are_their_texts (take n text) r p).0 h.is in
    ap receipt_at (sym (take-append-drop n text) ∙ ap (λ (t : List ℕ). t ++ drop n text) is.text_is)
    ∙ receipt_again r p (drop n text) is.receipt_is is.part_is

-- if nothing is read, none stands in front
pub front_none : (text : List ℕ) → receipt_at text ≡ None → (r : Receipt) (p : Part) (n : ℕ)
    → (◌≡◌ {A = Option (Receipt × Part × ℕ)} None (Some (r, p, n))) ↔ IsInFront text r p n
front_none text e r p n = (
  λ none. absurd cc,
  λ h. let read = front_read text r p n h in absurd cc,
)

one_front : (text : List ℕ) (r₀ : Receipt) (p₀ : Part) → receipt_at text ≡ Some (r₀, p₀)
    → (r : Receipt) (p : Part) (n : ℕ) → IsInFront text r p n
    → (◌≡◌ {A = Receipt × Part} (r₀, p₀) (r, p)) × IsInFront text r₀ p₀ n
one_front text r₀ p₀ e r p n h =
    let read = front_read text r p n h in
    let same : ◌≡◌ {A = Receipt × Part} (r₀, p₀) (r, p) = cc in
    (same, subst (λ (x : Receipt × Part). IsInFront text x.0 x.1 n) (sym same) h)

-- if the text of what was read doesn't stand in front, none does
pub front_other : (text : List ℕ) (r₀ : Receipt) (p₀ : Part) → receipt_at text ≡ Some (r₀, p₀)
    → ((n : ℕ) → (◌≡◌ {A = Option ℕ} None (Some n)) ↔ IsInFront text r₀ p₀ n)
    → (r : Receipt) (p : Part) (n : ℕ) → (◌≡◌ {A = Option (Receipt × Part × ℕ)} None (Some (r, p, n)))
    ↔ IsInFront text r p n
front_other text r₀ p₀ e not r p n = (
  λ none. absurd cc,
  λ h.
      let none : ◌≡◌ {A = Option ℕ} None (Some n) = (not n).1 (one_front text r₀ p₀ e r p n h).1 in
      absurd cc,
)

same_count : (m n : ℕ) → ◌≡◌ {A = Option ℕ} (Some m) (Some n) → m ≡ n
same_count m n e = cc

-- if it does, it is the receipt in front
pub front_some : (text : List ℕ) (r₀ : Receipt) (p₀ : Part) (n₀ : ℕ) → receipt_at text ≡ Some (r₀, p₀)
    → ((n : ℕ) → (◌≡◌ {A = Option ℕ} (Some n₀) (Some n)) ↔ IsInFront text r₀ p₀ n)
    → (r : Receipt) (p : Part) (n : ℕ) → (◌≡◌ {A = Option (Receipt × Part × ℕ)} (Some (r₀, p₀, n₀)) (Some (r, p, n)))
    ↔ IsInFront text r p n
front_some text r₀ p₀ n₀ e is r p n = (
  λ same.
      let triple : ◌≡◌ {A = Receipt × Part × ℕ} (r₀, p₀, n₀) (r, p, n) = cc in
      subst (λ (x : Receipt × Part × ℕ). IsInFront text x.0 x.1 x.2) triple ((is n₀).0 refl),
  λ h.
      let one = one_front text r₀ p₀ e r p n h in
      ap (λ (x : Receipt × Part). Some (x.0, x.1, n₀)) one.0
      ∙ ap (λ (k : ℕ). Some (r, p, k)) (same_count n₀ n ((is n).1 one.1)),
)

-- a text is a receipt if that stands in front and is as long
whole : (text : List ℕ) (r : Receipt) (p : Part) → IsReceiptText text r p ↔ IsInFront text r p (length text)
whole text r p = (
  λ h. record {
    within = omega arith;
    is = subst (λ (t : List ℕ). IsReceiptText t r p) (sym (take-length text)) h;
  },
  λ h. subst (λ (t : List ℕ). IsReceiptText t r p) (take-length text) h.is,
)

-- if none stands in front, or one that is shorter, the text is none
pub whole_other : (text : List ℕ) (found : Option (Receipt × Part × ℕ))
    → ((r : Receipt) (p : Part) (n : ℕ) → (found ≡ Some (r, p, n)) ↔ IsInFront text r p n)
    → ((r : Receipt) (p : Part) → ¬ (found ≡ Some (r, p, length text)))
    → (r : Receipt) (p : Part) → (◌≡◌ {A = Option (Receipt × Part)} None (Some (r, p))) ↔ IsReceiptText text r p
whole_other text found is not r p = (
  λ none. absurd cc,
  λ h. absurd (not r p ((is r p (length text)).1 ((whole text r p).0 h))),
)

pub same_length : (r₀ r : Receipt) (p₀ p : Part) (m n : ℕ)
    → ◌≡◌ {A = Option (Receipt × Part × ℕ)} (Some (r₀, p₀, m)) (Some (r, p, n)) → m ≡ n
same_length r₀ r p₀ p m n e =
    let triple : ◌≡◌ {A = Receipt × Part × ℕ} (r₀, p₀, m) (r, p, n) = cc in
    ap (λ (x : Receipt × Part × ℕ). x.2) triple

-- if one stands in front that is as long, it is the text's
pub whole_some : (text : List ℕ) (r₀ : Receipt) (p₀ : Part) (n₀ : ℕ)
    → ((r : Receipt) (p : Part) (n : ℕ) → (◌≡◌ {A = Option (Receipt × Part × ℕ)} (Some (r₀, p₀, n₀)) (Some (r, p, n)))
    ↔ IsInFront text r p n) → n₀ ≡ length text
    → (r : Receipt) (p : Part) → (◌≡◌ {A = Option (Receipt × Part)} (Some (r₀, p₀)) (Some (r, p)))
    ↔ IsReceiptText text r p
whole_some text r₀ p₀ n₀ is long r p = (
  λ same.
      let pair : ◌≡◌ {A = Receipt × Part} (r₀, p₀) (r, p) = cc in
      (whole text r p).1 ((is r p (length text)).0 (λ i. Some ((pair i).0, (pair i).1, long i))),
  λ h.
      let found = (is r p (length text)).1 ((whole text r p).0 h) in
      let triple : ◌≡◌ {A = Receipt × Part × ℕ} (r₀, p₀, n₀) (r, p, length text) = cc in
      ap (λ (x : Receipt × Part × ℕ). Some (x.0, x.1)) triple,
)
