-- What a beginning of a roll is read as is what the roll is read as, so far.
use Rattle.std.proofs.Common.{[], ℕ, ◌++◌, ◌<◌, ◌∙◌, ◌∷◌, ◌≡◌, ◌≤◌, ◌⊎◌, List, ap, append_assoc, arith, inl, inr}
use Rattle.{std.proofs.Common.{length, length-append, refl, subst, sym}, receipt_reading.proofs.Overlaps.{none_within}}
use Rattle.receipt_reading.{specs.Printed.{IsPrinted, Printed}, proofs.RollLaws.{more_of, one_in_front, reads_bytes}}
use Rattle.receipt_reading.specs.Roll.{AreOnRoll, BeginsWithNone, IsFirst, Reads, Reads.{found, over, passed}}

-- ---- where a text has a receipt, and what stands before and behind it

record HasReceipt (text : List ℕ) : Type 0 where
  it : Printed
  is : IsPrinted it
  before : List ℕ
  behind : List ℕ
  text_is : text ≡ before ++ (it.text ++ behind)

first_found : (text rest : List ℕ) (receipts : List Printed) → Reads text receipts rest → 0 < length receipts
    → HasReceipt text
first_found text rest receipts (over t) some = absurd (omega (arith, some))
first_found text rest receipts (found t after last r more is h reads) some =
    record { it = r; is = h; before = []; behind = after; text_is = is }
first_found text rest receipts (passed t after last byte those is none reads) some =
    let there = first_found after last those reads some in
    record {
      it = there.it;
      is = there.is;
      before = byte ∷ there.before;
      behind = there.behind;
      text_is = is ∙ ap (λ (t : List ℕ). byte ∷ t) there.text_is;
    }

or_later : (m n : ℕ) → (m ≤ n) ⊎ (n < m)
or_later m n = grind arith

-- a receipt that begins a longer text ends within the text, if the text has a receipt
begins_within : (text more after : List ℕ) (r : Printed) → HasReceipt text → IsPrinted r → text ++ more
    ≡ r.text ++ after
    → (behind : List ℕ) × (text ≡ r.text ++ behind)
begins_within text more after r has h e = elim (or_later (length r.text) (length text)) [
  | inl few ↦ (let there = more_of r.text after text more (sym e) few in (there.0, there.1))
  | inr great ↦
      (let there = more_of text more r.text after e (omega (arith, great)) in
      let within : r.text ≡ has.before ++ (has.it.text ++ (has.behind ++ there.0)) =
      there.1
      ∙ (ap (λ (t : List ℕ). t ++ there.0) has.text_is ∙ (append_assoc has.before (has.it.text ++ has.behind) there.0
      ∙ ap (λ (t : List ℕ). has.before ++ t) (append_assoc has.it.text has.behind there.0))) in
      let none = none_within r has.it has.before (has.behind ++ there.0) within h has.is in
      absurd (omega (
        arith,
        ap length there.1,
        length-append text there.0,
        ap length none,
        length-append has.behind there.0,
        great,
      )))
]

-- no receipt begins the longer text either
none_longer : (text more : List ℕ) → HasReceipt text → BeginsWithNone text → BeginsWithNone (text ++ more)
none_longer text more has none r after e h = let there = begins_within text more after r has h e in
    none r there.0 there.1 h

-- what a text is read as up to a receipt, it is read as with more behind it
pub reads_longer : (text rest : List ℕ) (receipts : List Printed) (more : List ℕ) → Reads text receipts rest
    → 0 < length receipts → (after : List ℕ) × Reads (text ++ more) receipts after
reads_longer text rest receipts more (over t) some = absurd (omega (arith, some))
reads_longer text rest receipts more (found t after last r [] is h reads) some = (
  after ++ more,
  found (text ++ more) (after ++ more) (after ++ more) r []
      (ap (λ (u : List ℕ). u ++ more) is ∙ append_assoc r.text after more) h (over (after ++ more)),
)
reads_longer text rest receipts more (found t after last r (next ∷ others) is h reads) some =
    let there = reads_longer after last (next ∷ others) more reads (omega arith) in (
      there.0,
      found (text ++ more) (after ++ more) there.0 r (next ∷ others)
          (ap (λ (u : List ℕ). u ++ more) is ∙ append_assoc r.text after more) h there.1,
    )
reads_longer text rest receipts more (passed t after last byte those is none reads) some =
    let there = reads_longer after last those more reads some in
    let has = first_found text last those (passed text after last byte those is none reads) some in (
      there.0,
      passed (text ++ more) (after ++ more) there.0 byte those (ap (λ (u : List ℕ). u ++ more) is)
          (none_longer text more has none) there.1,
    )

-- ---- two readings of one text

first_more : (r : Printed) (a b : List Printed) → IsFirst a b → IsFirst (r ∷ a) (r ∷ b)
first_more r a b first = (first.0, ap (λ (xs : List Printed). r ∷ xs) first.1)

pub reads_agree : (text : List ℕ) (a b : List Printed) (rest rest' : List ℕ) → Reads text a rest → Reads text b rest'
    → IsFirst a b ⊎ IsFirst b a
reads_agree text a b rest rest' (over t) other = inl (b, refl)
reads_agree text a b rest rest' (found t after last r more is h reads) (over t') = inr (r ∷ more, refl)
reads_agree text a b rest rest' (found t after last r more is h reads) (found t' after' last' r' more' is' h' reads') =
    let one = one_in_front text r r' after after' is is' h h' in
    elim (reads_agree after more more' last last' reads
    (subst (λ (u : List ℕ). Reads u more' last') (sym one.1) reads')) [
      | inl first ↦ inl (subst (λ (x : Printed). IsFirst (r ∷ more) (x ∷ more')) one.0 (first_more r more more' first))
      | inr first ↦ inr (subst (λ (x : Printed). IsFirst (x ∷ more') (r ∷ more)) one.0 (first_more r more' more first))
    ]
reads_agree text a b rest rest' (found t after last r more is h reads)
    (passed t' after' last' byte those is' none reads') = absurd (none r after is h)
reads_agree text a b rest rest' (passed t after last byte those is none reads) (over t') = inr (those, refl)
reads_agree text a b rest rest' (passed t after last byte those is none reads)
    (found t' after' last' r' more' is' h' reads') = absurd (none r' after' is' h')
reads_agree text a b rest rest' (passed t after last byte those is none reads)
    (passed t' after' last' byte' those' is' none' reads') =
    let same : byte ∷ after ≡ byte' ∷ after' = sym is ∙ is' in
    let tails : after ≡ after' = cc in
    reads_agree after those those' last last' reads (subst (λ (u : List ℕ). Reads u those' last') (sym tails) reads')

-- a reading to the end has all receipts
none_of : (receipts : List Printed) → length receipts ≡ 0 → receipts ≡ []
none_of [] e = refl
none_of (x ∷ xs) e = absurd (omega (arith, e))

pub whole_first : (text : List ℕ) (all some : List Printed) (rest rest' : List ℕ) → Reads text all rest → rest ≡ []
    → Reads text some rest' → IsFirst some all
whole_first text all some rest rest' (over t) none other = (
  [],
  sym (ap (λ (xs : List Printed). xs ++ [])
      (none_of some (omega (arith, reads_bytes text rest' some other, ap length none)))),
)
whole_first text all some rest rest' (found t after last r more is h reads) none (over t') = (r ∷ more, refl)
whole_first text all some rest rest' (found t after last r more is h reads) none
    (found t' after' last' r' more' is' h' reads') =
    let one = one_in_front text r r' after after' is is' h h' in
    let first = whole_first after more more' last last' reads none
    (subst (λ (u : List ℕ). Reads u more' last') (sym one.1) reads') in
    subst (λ (x : Printed). IsFirst (x ∷ more') (r ∷ more)) one.0 (first_more r more' more first)
whole_first text all some rest rest' (found t after last r more is h reads) none
    (passed t' after' last' byte those is' not reads') = absurd (not r after is h)
whole_first text all some rest rest' (passed t after last byte those is not reads) none (over t') = (those, refl)
whole_first text all some rest rest' (passed t after last byte those is not reads) none
    (found t' after' last' r' more' is' h' reads') = absurd (not r' after' is' h')
whole_first text all some rest rest' (passed t after last byte those is not reads) none
    (passed t' after' last' byte' those' is' not' reads') =
    let same : byte ∷ after ≡ byte' ∷ after' = sym is ∙ is' in
    let tails : after ≡ after' = cc in
    whole_first after those those' last last' reads none
    (subst (λ (u : List ℕ). Reads u those' last') (sym tails) reads')

-- the receipts of a beginning are the first of the whole
pub beginning_first : (text more rest : List ℕ) (all some : List Printed) → AreOnRoll all (text ++ more)
    → Reads text some rest → IsFirst some all
beginning_first text more rest all [] whole reads = (all, refl)
beginning_first text more rest all (r ∷ others) whole reads =
    let longer = reads_longer text rest (r ∷ others) more reads (omega arith) in
    whole_first (text ++ more) all (r ∷ others) [] longer.0 whole refl longer.1
