-- What a roll is read as.
use Rattle.{std.specs.Prelude.{codes}, receipt_text.proofs.Laws.{first_word, no_beginning, one_part, one_receipt}}
use Rattle.std.proofs.Common.{[], ℕ, ◌++◌, ◌+◌, ◌<◌, ◌∙◌, ◌∷◌, ◌≡◌, ◌≢◌, ◌≤◌, ◌⊎◌, List, ap, arith, get_or, inl, inr}
use Rattle.std.proofs.{Common.{length, length-append, refl, subst, suc, sym}, lemmas.List.{append-nil}}
use Rattle.receipt_reading.specs.{Common.{IsReceiptText, Part, Receipt}, Roll.{AreOnRoll, BeginsWithNone, Reads}}
use Rattle.receipt_reading.specs.{Printed.{IsPrinted, Printed}, Roll.Reads.{found, over, passed}}

-- ---- one receipt at a place

-- of two beginnings of one text the longer goes on after the shorter
pub more_of : (a b c d : List ℕ) → a ++ b ≡ c ++ d → length a ≤ length c
    → (more : List ℕ) × (c ≡ a ++ more) × (b ≡ more ++ d)
more_of [] b c d e few = (c, refl, e)
more_of (x ∷ a) b [] d e few = absurd (omega arith)
more_of (x ∷ a) b (y ∷ c) d e few =
    let tails : a ++ b ≡ c ++ d = cc in
    let heads : y ≡ x = cc in
    let there = more_of a b c d tails (omega arith) in
    (there.0, ap (λ (z : ℕ). z ∷ c) heads ∙ ap (λ (ys : List ℕ). x ∷ ys) there.1, there.2)

same_fields : (a b : Printed) → a.text ≡ b.text → a.receipt ≡ b.receipt → a.part ≡ b.part → a ≡ b
same_fields a b text receipt part = λ i. record { text = text i; receipt = receipt i; part = part i }

-- receipts of one text are one
pub one_printed : (a b : Printed) → a.text ≡ b.text → IsPrinted a → IsPrinted b → a ≡ b
one_printed a b e h k =
    let there : IsReceiptText a.text b.receipt b.part =
    subst (λ (t : List ℕ). IsReceiptText t b.receipt b.part) (sym e) k.is in
    same_fields a b e (one_receipt a.text a.receipt b.receipt a.part b.part h.is there)
    (one_part a.text a.receipt b.receipt a.part b.part h.is there)

-- no receipt begins another
none_more : (a b : Printed) (more : List ℕ) → b.text ≡ a.text ++ more → IsPrinted a → IsPrinted b → more ≡ []
none_more a b more e h k = no_beginning a.text more a.receipt b.receipt a.part b.part h.is
    (subst (λ (t : List ℕ). IsReceiptText t b.receipt b.part) e k.is)

-- if one begins a text, it is the one that begins it, and the same is left
one_by : (text : List ℕ) (a b : Printed) (after after' : List ℕ) → text ≡ a.text ++ after → text ≡ b.text ++ after'
    → length a.text ≤ length b.text → IsPrinted a → IsPrinted b → (a ≡ b) × (after ≡ after')
one_by text a b after after' e f few h k =
    let there = more_of a.text after b.text after' (sym e ∙ f) few in
    let none = none_more a b there.0 there.1 h k in (
      one_printed a b (sym (there.1 ∙ (ap (λ (m : List ℕ). a.text ++ m) none ∙ append-nil a.text))) h k,
      there.2 ∙ ap (λ (m : List ℕ). m ++ after') none,
    )

or_later : (m n : ℕ) → (m ≤ n) ⊎ (n ≤ m)
or_later m n = grind arith

pub one_in_front : (text : List ℕ) (a b : Printed) (after after' : List ℕ) → text ≡ a.text ++ after
    → text ≡ b.text ++ after' → IsPrinted a → IsPrinted b → (a ≡ b) × (after ≡ after')
one_in_front text a b after after' e f h k =
    elim (or_later (length a.text) (length b.text)) [
      | inl few ↦ one_by text a b after after' e f few h k
      | inr few ↦ let there = one_by text b a after' after f e few k h in (sym there.0, sym there.1)
    ]

-- a receipt has bytes
pub some_bytes : (a : Printed) → IsPrinted a → (more : List ℕ) × (a.text ≡ 82 ∷ more)
some_bytes a h = let there = first_word a.text a.receipt a.part h.is in (codes "ECEIPT " ++ there.0, there.1)

-- ---- one reading

not_over : (a : Printed) (after : List ℕ) → [] ≡ a.text ++ after → IsPrinted a → ⊥
not_over a after e h =
    let some = some_bytes a h in
    omega (arith, ap length e, length-append a.text after, ap length some.1)

read_by : (roll : List ℕ) (a b : List Printed) (rest rest' : List ℕ) → Reads roll a rest → Reads roll b rest' → rest
    ≡ []
    → rest' ≡ [] → a ≡ b
read_by roll a b rest rest' (over text) (over text') e f = refl
read_by roll a b rest rest' (over text) (found text' after last r more is h reads) e f =
    absurd (not_over r after (sym e ∙ is) h)
read_by roll a b rest rest' (over text) (passed text' after last byte receipts is none reads) e f =
    absurd (omega (arith, ap length (sym e ∙ is)))
read_by roll a b rest rest' (found text' after last r more is h reads) (over text) e f =
    absurd (not_over r after (sym f ∙ is) h)
read_by roll a b rest rest' (found text after last r more is h reads)
    (found text' after' last' r' more' is' h' reads') e f =
    let one = one_in_front text r r' after after' is is' h h' in
    let others =
    read_by after more more' last last' reads (subst (λ (t : List ℕ). Reads t more' last') (sym one.1) reads') e f in
    ap (λ (x : Printed). x ∷ more) one.0 ∙ ap (λ (xs : List Printed). r' ∷ xs) others
read_by roll a b rest rest' (found text after last r more is h reads)
    (passed text' after' last' byte receipts is' none reads') e f = absurd (none r after is h)
read_by roll a b rest rest' (passed text after last byte receipts is none reads) (over text') e f =
    absurd (omega (arith, ap length (sym f ∙ is)))
read_by roll a b rest rest' (passed text after last byte receipts is none reads)
    (found text' after' last' r' more' is' h' reads') e f = absurd (none r' after' is' h')
read_by roll a b rest rest' (passed text after last byte receipts is none reads)
    (passed text' after' last' byte' receipts' is' none' reads') e f =
    let same : byte ∷ after ≡ byte' ∷ after' = sym is ∙ is' in
    let tails : after ≡ after' = cc in
    read_by after receipts receipts' last last' reads
    (subst (λ (t : List ℕ). Reads t receipts' last') (sym tails) reads') e f

-- a roll is read in one way
pub read_once : (roll : List ℕ) (a b : List Printed) → AreOnRoll a roll → AreOnRoll b roll → a ≡ b
read_once roll a b h k = read_by roll a b [] [] h k refl refl

-- ---- reading on

-- one reading after another
pub read_on : (text mid rest : List ℕ) (a b : List Printed) → Reads text a mid → Reads mid b rest
    → Reads text (a ++ b) rest
read_on text mid rest a b (over t) then = then
read_on text mid rest a b (found t after last r more is h reads) then =
    found t after rest r (more ++ b) is h (read_on after last rest more b reads then)
read_on text mid rest a b (passed t after last byte receipts is none reads) then =
    passed t after rest byte (receipts ++ b) is none (read_on after last rest receipts b reads then)

-- a receipt begins with its first letter
no_letter : (byte : ℕ) (after : List ℕ) → byte ≢ 82 → BeginsWithNone (byte ∷ after)
no_letter byte after other r behind e h =
    let some = some_bytes r h in
    let same : byte ∷ after ≡ 82 ∷ (some.0 ++ behind) = e ∙ ap (λ (t : List ℕ). t ++ behind) some.1 in
    let first : byte ≡ 82 = cc in
    other first

-- bytes that aren't that letter are passed
pub pass_bytes : (bytes more : List ℕ) → ((k : ℕ) → k < length bytes → get_or bytes k 0 ≢ 82)
    → Reads (bytes ++ more) [] more
pass_bytes [] more others = over more
pass_bytes (byte ∷ bytes) more others =
    passed (byte ∷ (bytes ++ more)) (bytes ++ more) more byte [] refl
    (no_letter byte (bytes ++ more) (others 0 (omega arith)))
    (pass_bytes bytes more (λ k few. others (suc k) (omega arith)))

-- each receipt takes bytes
pub reads_bytes : (text rest : List ℕ) (receipts : List Printed) → Reads text receipts rest
    → length receipts + length rest ≤ length text
reads_bytes text rest receipts (over t) = omega arith
reads_bytes text rest receipts (found t after last r more is h reads) =
    let some = some_bytes r h in
    omega (arith, reads_bytes after last more reads, ap length is, length-append r.text after, ap length some.1)
reads_bytes text rest receipts (passed t after last byte those is none reads) =
    omega (arith, reads_bytes after last those reads, ap length is)

-- the first of the receipts that a reading gives are read first
pub read_first : (text rest : List ℕ) (all some more : List Printed) → Reads text all rest → all ≡ some ++ more
    → (mid : List ℕ) × Reads text some mid
read_first text rest all [] more reads e = (text, over text)
read_first text rest all (x ∷ some) more (over t) e = absurd (omega (arith, ap length e))
read_first text rest all (x ∷ some) more (found t after last r others is h reads) e =
    let same : r ≡ x = cc in
    let behind : others ≡ some ++ more = cc in
    let there = read_first after last others some more reads behind in (
      there.0,
      subst (λ (y : Printed). Reads text (y ∷ some) there.0) same
          (found text after there.0 r some is h there.1),
    )
read_first text rest all (x ∷ some) more (passed t after last byte those is none reads) e =
    let there = read_first after last those (x ∷ some) more reads e in
    (there.0, passed text after there.0 byte (x ∷ some) is none there.1)
