-- How a search for a receipt goes on.
use Rattle.std.proofs.Common.{[], ℕ, ◌++◌, ◌+◌, ◌-◌, ◌<◌, ◌∙◌, ◌∷◌, ◌≡◌, ◌≢◌, ◌≤◌, Bool, List, ap, append_assoc, arith}
use Rattle.std.proofs.Common.{drop, false, get_or, length, length-append, length-drop, length-take, refl, subst, sym}
use Rattle.std.proofs.{Common.{take, true}, lemmas.List.{append-nil, drop-drop, get_or-take, take-append-drop}}
use Rattle.{std.proofs.Math.Seq.{take-length}, receipt_text.proofs.Laws.{short_texts}}
use Rattle.receipt_reading.{specs.Printed.{IsPrinted, Printed}, proofs.RollLaws.{more_of, pass_bytes, read_on}}
use Rattle.receipt_reading.specs.{ReceiptSearch.{IsReceiptSearch, MayFollow}, Roll.Reads.{found, over, passed}}
use Rattle.receipt_reading.specs.Roll.{BeginsWithNone, Reads}

-- the rest of a text, as a slice
pub rest_of : (at : ℕ) (text : List ℕ) → take (length text - at) (drop at text) ≡ drop at text
rest_of at text = ap (λ (k : ℕ). take k (drop at text)) (sym (length-drop at text)) ∙ take-length (drop at text)

-- what is read on of what is left
goes_on : (ended : Bool) (text : List ℕ) (at n : ℕ) (those : List Printed) → IsReceiptSearch ended text at []
    → at + n ≤ length text
    → ((more : List ℕ) → MayFollow ended more → Reads (drop at text ++ more) those (drop n (drop at text) ++ more))
    → IsReceiptSearch ended text (at + n) those
goes_on ended text at n those h within reads = record {
  within = within;
  reads = λ more may.
      subst (λ (left : List ℕ). Reads (text ++ more) those (left ++ more)) (drop-drop n at text)
      (read_on (text ++ more) (drop at text ++ more) (drop n (drop at text) ++ more) [] those (h.reads more may)
      (reads more may));
}

-- before the first byte
pub search_at : (ended : Bool) (text : List ℕ) → IsReceiptSearch ended text 0 []
search_at ended text = record { within = omega arith; reads = λ more may. over (text ++ more) }

-- bytes with which no receipt begins are passed
pub search_behind : (ended : Bool) (text rest : List ℕ) (at n : ℕ) → IsReceiptSearch ended text at []
    → rest ≡ drop at text → n ≤ length rest
    → ((k : ℕ) → k < n → get_or rest k 0 ≢ 82) → IsReceiptSearch ended text (at + n) []
search_behind ended text rest at n h is few others =
    let left = drop at text in
    let short : n ≤ length left = omega (arith, few, ap length is) in
    goes_on ended text at n [] h (omega (arith, short, h.within, length-drop at text)) (λ more may.
    subst (λ (t : List ℕ). Reads t [] (drop n left ++ more))
    (sym (append_assoc (take n left) (drop n left) more) ∙ ap (λ (t : List ℕ). t ++ more) (take-append-drop n left))
    (pass_bytes (take n left) (drop n left ++ more) (λ k below.
    let within : k < n = omega (arith, below, length-take n left) in
    let same : get_or (take n left) k 0 ≡ get_or rest k 0 =
    get_or-take n left k 0 within ∙ ap (λ (t : List ℕ). get_or t k 0) (sym is) in
    λ letter. others k within (sym same ∙ letter))))

-- a receipt is found
pub search_found : (ended : Bool) (text rest : List ℕ) (at : ℕ) (r : Printed) → IsReceiptSearch ended text at []
    → rest ≡ drop at text → rest ≡ r.text ++ drop (length r.text) rest
    → IsPrinted r → IsReceiptSearch ended text (at + length r.text) (r ∷ [])
search_found ended text rest at r h is front record_is =
    let left = drop at text in
    let n = length r.text in
    let there : left ≡ r.text ++ drop n left = sym is ∙ (front ∙ ap (λ (t : List ℕ). r.text ++ drop n t) is) in
    goes_on ended text at n (r ∷ []) h
    (omega (arith, h.within, length-drop at text, ap length there, length-append r.text (drop n left))) (λ more may.
    found (left ++ more) (drop n left ++ more) (drop n left ++ more) r [] (ap (λ (t : List ℕ). t ++ more) there
    ∙ append_assoc r.text (drop n left) more) record_is (over (drop n left ++ more)))

-- none is found, whatever follows
none_ever : (ended : Bool) (left more : List ℕ) → MayFollow ended more → BeginsWithNone left
    → (ended ≡ false → 480 ≤ length left) → BeginsWithNone (left ++ more)
none_ever true left more may none long r behind e h =
    none r behind (sym (append-nil left) ∙ (ap (λ (t : List ℕ). left ++ t) (sym may) ∙ e)) h
none_ever false left more may none long r behind e h =
    let few = short_texts r.text r.receipt r.part h.is in
    let there = more_of r.text behind left more (sym e) (omega (arith, few, long refl)) in
    none r there.0 there.1 h

first_of : (left : List ℕ) → 0 < length left → left ≡ get_or left 0 0 ∷ drop 1 left
first_of [] some = absurd (omega arith)
first_of (x ∷ xs) some = refl

-- a byte is passed
pub search_passed : (ended : Bool) (text rest : List ℕ) (at : ℕ) → IsReceiptSearch ended text at []
    → rest ≡ drop at text → BeginsWithNone rest → 0 < length rest
    → (ended ≡ false → 480 ≤ length rest) → IsReceiptSearch ended text (at + 1) []
search_passed ended text rest at h is none some long =
    let left = drop at text in
    let some_left : 0 < length left = omega (arith, some, ap length is) in
    goes_on ended text at 1 [] h (omega (arith, h.within, length-drop at text, some_left)) (λ more may.
    let none_left =
    none_ever ended left more may (subst BeginsWithNone is none) (λ e. omega (arith, long e, ap length is)) in
    passed (left ++ more) (drop 1 left ++ more) (drop 1 left ++ more) (get_or left 0 0) []
    (ap (λ (t : List ℕ). t ++ more) (first_of left some_left)) none_left (over (drop 1 left ++ more)))
