-- Where a band begins: at the last cut that is at most the value, or at 0.
use Rattle.std.proofs.Common.{ℕ, ◌<◌, ◌≡◌, ◌≤◌, List, arith, get_or, inl, inr, length, refl, suc, zero}
use Rattle.{std.proofs.lemmas.Bool.{cases_lt}, tariff_calendar.specs.Lists.{IsNotFalling}}
use Rattle.tariff_calendar.proofs.Laws.{counts_are_places-after, counts_are_places-before, counts_are_places-few}
use Rattle.tariff_compile.specs.{Cells.{beginning}, Common.{count_at_most}}

-- if the first n cuts are at most a value and no later one is, they are n
count_at_most-at : (v n : ℕ) (xs : List ℕ) → IsNotFalling xs → n ≤ length xs → ((i : ℕ) → i < n → get_or xs i 0 ≤ v)
    → ((i : ℕ) → n ≤ i → i < length xs → v < get_or xs i 0) → count_at_most v xs ≡ n
count_at_most-at v n xs ordered few below above =
    let count = count_at_most v xs in
    elim (cases_lt count n) [
      | inl fewer ↦
          let le = below count fewer in
          let after = counts_are_places-after v xs count ordered (omega arith) (omega arith) in
          absurd (omega arith)
      | inr enough ↦
          elim (cases_lt n count) [
            | inl more ↦
                let le = counts_are_places-before v xs n ordered more in
                let gt = above n (omega arith) (omega (arith, counts_are_places-few v xs)) in
                absurd (omega arith)
            | inr same ↦ omega arith
          ]
    ]

-- a cut stands in its own band
count_at_most-own : (v n : ℕ) (xs : List ℕ) → IsNotFalling xs → count_at_most v xs ≡ suc n → get_or xs n 0 ≤ v
    → count_at_most (get_or xs n 0) xs ≡ suc n
count_at_most-own v n xs ordered is le =
    let few : suc n ≤ length xs = omega (arith, counts_are_places-few v xs) in
    count_at_most-at (get_or xs n 0) (suc n) xs ordered few
    (λ i lt.
    elim (cases_lt i n) [
      | inl before ↦ ordered i n before (omega arith)
      | inr same ↦ let is_n : i ≡ n = omega arith in rw is_n (omega arith)
    ])
    (λ i from within.
    let after : v < get_or xs i 0 = counts_are_places-after v xs i ordered (omega arith) within in
    omega arith)

beginning-by : (v n : ℕ) (xs : List ℕ) → IsNotFalling xs → count_at_most v xs ≡ n
    → (beginning xs n ≤ v) × (count_at_most (beginning xs n) xs ≡ n)
beginning-by v zero xs ordered is = (
  omega arith,
  count_at_most-at 0 0 xs ordered (omega arith) (λ i lt. absurd (omega arith))
      (λ i le within. let after = counts_are_places-after v xs i ordered (omega arith) within in omega arith),
)
beginning-by v (suc n) xs ordered is =
    let le : get_or xs n 0 ≤ v = counts_are_places-before v xs n ordered (omega arith) in
    (le, count_at_most-own v n xs ordered is le)

-- it is at most the value
pub beginning-le : (v : ℕ) (xs : List ℕ) → IsNotFalling xs → beginning xs (count_at_most v xs) ≤ v
beginning-le v xs ordered = (beginning-by v (count_at_most v xs) xs ordered refl).0

-- and as many cuts are at most it
pub count_at_most-beginning : (v : ℕ) (xs : List ℕ) → IsNotFalling xs
    → count_at_most (beginning xs (count_at_most v xs)) xs ≡ count_at_most v xs
count_at_most-beginning v xs ordered = (beginning-by v (count_at_most v xs) xs ordered refl).1
