-- The optional lines of a receipt and its total: their amounts and words are short, and what is written of the lines is
-- read again.
use Rattle.{std.specs.{List.{AllByRecursion}, Prelude.{codes}}, taxi_units.specs.Money.{largest_amount}}
use Rattle.std.proofs.Common.{[], ℕ, ◌*◌, ◌++◌, ◌+◌, ◌<◌, ◌^◌, ◌∷◌, ◌≡◌, ◌≤◌, List, None, Some, ap, append_assoc, arith}
use Rattle.std.proofs.{Common.{eqb, false, inl, inr, length, refl}, lemmas.Bool.{cases_lt, ne_eqb}}
use Rattle.{taxi_units.specs.Reading.{word_at}, receipt_text.specs.Common.{IsReceipt, Receipt, money_text}}
use Rattle.receipt_text.specs.{AmountLines.{optional_lines, total_of}, Lines.{optional_at, optional_lines_at}}
use Rattle.receipt_text.{specs.Receipts.{in_front, optional_text}, proofs.Again.{amount_again, word_again}}
use Rattle.receipt_text.proofs.Widths.{amount_most, lengths}

-- a line is short if its word and its amount are
pub record IsShort (line : List ℕ × ℕ) : Type 0 where
  pub word : length line.0 ≤ 10
  pub amount : line.1 ≤ largest_amount

pub optional_short : (r : Receipt) → IsReceipt r → AllByRecursion IsShort (optional_lines r)
optional_short r is = (record { word = omega arith; amount = is.minimum }, tt)

-- the total has at most ten digits
pub total_small : (r : Receipt) → IsReceipt r → total_of r < 10 ^ 10
unfolding total_of
total_small r is = omega (arith, is.fare, is.supplements)

-- what an optional line adds to what stands behind it
line_len : (decimals : ℕ) (word : List ℕ) (amount : ℕ) → decimals ≤ 3 → length word ≤ 10 → amount ≤ largest_amount
    → length (optional_text decimals word amount) ≤ 20
unfolding optional_text
line_len decimals word amount few short small =
    elim (cases_lt 0 amount) [
      | inl some ↦
          let not_none : eqb amount 0 ≡ false = ne_eqb amount 0 (λ e. omega arith) in
          rw not_none (omega (lengths, amount_most decimals 8 amount (omega arith) (omega arith) (omega arith)))
      | inr none ↦
          let zero_is : amount ≡ 0 = omega arith in
          rw zero_is (omega arith)
    ]

pub optional_len : (decimals : ℕ) (lines : List (List ℕ × ℕ)) (text : List ℕ) → decimals ≤ 3
    → AllByRecursion IsShort lines → length (in_front decimals lines text) ≤ 20 * length lines + length text
optional_len decimals [] text few short = omega arith
optional_len decimals ((word, amount) ∷ more) text few short =
    omega (
      lengths,
      line_len decimals word amount few short.0.word short.0.amount,
      optional_len decimals more text few short.1,
    )

-- a word that no line begins with isn't found in front of the lines and a text that doesn't begin with it either
none_in_front : (decimals : ℕ) (word : List ℕ) (lines : List (List ℕ × ℕ)) (text : List ℕ)
    → AllByRecursion (λ line. (rest : List ℕ) → word_at word (line.0 ++ rest) ≡ None) lines → word_at word text ≡ None
    → word_at word (in_front decimals lines text) ≡ None
unfolding optional_text
none_in_front decimals word [] text apart other = other
none_in_front decimals word ((first, amount) ∷ more) text apart other =
    let behind = in_front decimals more text in
    elim (cases_lt 0 amount) [
      | inl some ↦
          let not_none : eqb amount 0 ≡ false = ne_eqb amount 0 (λ e. omega arith) in
          let front : (first ++ (money_text decimals amount ++ codes "\n")) ++ behind
          ≡ first ++ ((money_text decimals amount ++ codes "\n") ++ behind) = append_assoc first _ behind in
          rw (not_none, front, apart.0 ((money_text decimals amount ++ codes "\n") ++ behind)) refl
      | inr none ↦
          let zero_is : amount ≡ 0 = omega arith in
          rw zero_is (none_in_front decimals word more text apart.1 other)
    ]

-- an optional line is read again, or left out, before a text that doesn't begin with its word
optional_again : (decimals : ℕ) (word : List ℕ) (amount : ℕ) (rest : List ℕ) → decimals ≤ 3 → amount < 10 ^ 18
    → word_at word rest ≡ None → optional_at word (optional_text decimals word amount ++ rest) ≡ Some (amount, rest)
unfolding optional_at optional_text
optional_again decimals word amount rest few small other =
    elim (cases_lt 0 amount) [
      | inl some ↦
          let not_none : eqb amount 0 ≡ false = ne_eqb amount 0 (λ e. omega arith) in
          let text : (word ++ (money_text decimals amount ++ codes "\n")) ++ rest
          ≡ word ++ (money_text decimals amount ++ 10 ∷ rest) = simp append_assoc in
          let m =
          amount_again (10 ^ 18) decimals amount rest 10 few small (omega arith) (omega arith) (λ e. omega arith) in
          rw (not_none, text, word_again word _, m, word_again (codes "\n") rest) refl
      | inr none ↦
          let zero_is : amount ≡ 0 = omega arith in
          rw (zero_is, other) refl
    ]

-- the optional lines are read again before a text that begins with an F
pub optional_lines_again : (r : Receipt) (rest tail : List ℕ) → IsReceipt r → rest ≡ 70 ∷ tail → optional_lines_at
    (in_front r.decimals (optional_lines r) rest) ≡ Some (record { minimum = r.minimum }, rest)
unfolding optional_lines_at word_at
optional_lines_again r rest tail is first =
    let minimum = optional_again r.decimals (codes "MINIMUM ") r.minimum rest is.decimals (omega (arith, is.minimum))
    (none_in_front r.decimals (codes "MINIMUM ") [] rest tt (ap (word_at (codes "MINIMUM ")) first)) in
    rw minimum refl
