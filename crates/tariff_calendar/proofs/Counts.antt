-- How many numbers of a list are at most a value.
use Rattle.std.proofs.Common.{[], ℕ, ◌<◌, ◌∙◌, ◌∷◌, ◌≡◌, ◌≤◌, List, arith, cond, get_or, inl, inr, leb, length, refl}
use Rattle.std.proofs.{Common.{suc, sym, zero}, lemmas.List.Sums.{count_by-le-length, sum_by-cons}}
use Rattle.std.proofs.lemmas.Bool.{cases_lt, le-leb, lt-leb}
use Rattle.tariff_calendar.specs.Lists.{IsNotFalling, count_at_most}

-- they are no more than the numbers
pub count_at_most-le-length : (v : ℕ) (xs : List ℕ) → count_at_most v xs ≤ length xs
count_at_most-le-length v xs = count_by-le-length (λ cut. leb cut v) xs

-- a first number that is at most the value counts
pub count_at_most-counted : (v x : ℕ) (xs : List ℕ) → x ≤ v → count_at_most v (x ∷ xs) ≡ suc (count_at_most v xs)
count_at_most-counted v x xs le = sum_by-cons (λ cut. cond (leb cut v) 1 0) x xs ∙ (rw (le-leb x v le) (omega arith))

-- a greater first number doesn't
pub count_at_most-passed : (v x : ℕ) (xs : List ℕ) → v < x → count_at_most v (x ∷ xs) ≡ count_at_most v xs
count_at_most-passed v x xs lt = sum_by-cons (λ cut. cond (leb cut v) 1 0) x xs ∙ (rw (lt-leb x v lt) (omega arith))

-- if the first n numbers are at most the value and no later one is, they are n
pub count_at_most-at : (v n : ℕ) (xs : List ℕ) → n ≤ length xs → ((i : ℕ) → i < n → get_or xs i 0 ≤ v)
    → ((i : ℕ) → n ≤ i → i < length xs → v < get_or xs i 0) → count_at_most v xs ≡ n
count_at_most-at v n [] few below above = omega arith
count_at_most-at v zero (x ∷ xs) few below above =
    let here : v < x = above 0 (omega arith) (omega arith) in
    let rest = count_at_most-at v 0 xs (omega arith) (λ i lt. absurd (omega arith))
    (λ i le lt. above (suc i) (omega arith) (omega arith)) in
    count_at_most-passed v x xs here ∙ rest
count_at_most-at v (suc n) (x ∷ xs) few below above =
    let here : x ≤ v = below 0 (omega arith) in
    let rest = count_at_most-at v n xs (omega arith) (λ i lt. below (suc i) (omega arith))
    (λ i le lt. above (suc i) (omega arith) (omega arith)) in
    rw (count_at_most-counted v x xs here, rest) refl

-- a greater value has no fewer
pub count_at_most-le : (v w : ℕ) (xs : List ℕ) → v ≤ w → count_at_most v xs ≤ count_at_most w xs
count_at_most-le v w [] le = omega arith
count_at_most-le v w (x ∷ xs) le =
    let rest = count_at_most-le v w xs le in
    elim (cases_lt v x) [
      | inl passed ↦
          elim (cases_lt w x) [
            | inl also ↦ rw (count_at_most-passed v x xs passed, count_at_most-passed w x xs also) rest
            | inr in_w ↦ rw (count_at_most-passed v x xs passed, count_at_most-counted w x xs in_w) (omega arith)
          ]
      | inr in_v ↦
          let in_w : x ≤ w = omega arith in
          rw (count_at_most-counted v x xs in_v, count_at_most-counted w x xs in_w) (omega arith)
    ]

-- in a list that doesn't fall no earlier number is greater
pub IsNotFalling-le : (xs : List ℕ) (i j : ℕ) → IsNotFalling xs → i ≤ j → j < length xs → get_or xs i 0 ≤ get_or xs j 0
IsNotFalling-le xs i j ordered le within =
    elim (cases_lt i j) [
      | inl before ↦ ordered i j before within
      | inr same ↦ let is_j : i ≡ j = omega arith in rw is_j (omega arith)
    ]

-- the rest of a list that doesn't fall doesn't either
pub IsNotFalling-rest : (x : ℕ) (xs : List ℕ) → IsNotFalling (x ∷ xs) → IsNotFalling xs
IsNotFalling-rest x xs ordered = λ i j lt within. ordered (suc i) (suc j) (omega arith) (omega arith)

-- and none of it is less than the first
pub IsNotFalling-first : (x : ℕ) (xs : List ℕ) (i : ℕ) → IsNotFalling (x ∷ xs) → i < length xs → x ≤ get_or xs i 0
IsNotFalling-first x xs i ordered within = ordered 0 (suc i) (omega arith) (omega arith)

-- if the first number of a list that doesn't fall is greater, none counts
count_at_most-none : (v x : ℕ) (xs : List ℕ) → IsNotFalling (x ∷ xs) → v < x → count_at_most v (x ∷ xs) ≡ 0
count_at_most-none v x xs ordered lt =
    let rest = count_at_most-at v 0 xs (omega arith) (λ i less. absurd (omega arith))
    (λ i le within. let more = IsNotFalling-first x xs i ordered within in omega arith) in
    count_at_most-passed v x xs lt ∙ rest

-- in a list that doesn't fall the numbers before that place are at most the value
pub count_at_most-below : (v : ℕ) (xs : List ℕ) (i : ℕ) → IsNotFalling xs → i < count_at_most v xs → get_or xs i 0 ≤ v
count_at_most-below v [] i ordered lt = absurd (omega arith)
count_at_most-below v (x ∷ xs) zero ordered lt =
    elim (cases_lt v x) [
      | inl passed ↦ absurd (omega (arith, count_at_most-none v x xs ordered passed))
      | inr counted ↦ counted
    ]
count_at_most-below v (x ∷ xs) (suc i) ordered lt =
    elim (cases_lt v x) [
      | inl passed ↦ absurd (omega (arith, count_at_most-none v x xs ordered passed))
      | inr counted ↦ count_at_most-below v xs i (IsNotFalling-rest x xs ordered)
          (omega (arith, count_at_most-counted v x xs counted))
    ]

-- and those from it on are greater
pub count_at_most-above : (v : ℕ) (xs : List ℕ) (i : ℕ) → IsNotFalling xs → count_at_most v xs ≤ i → i < length xs
    → v < get_or xs i 0
count_at_most-above v [] i ordered le within = absurd (omega arith)
count_at_most-above v (x ∷ xs) zero ordered le within =
    elim (cases_lt v x) [
      | inl passed ↦ passed
      | inr counted ↦ absurd (omega (arith, count_at_most-counted v x xs counted))
    ]
count_at_most-above v (x ∷ xs) (suc i) ordered le within =
    elim (cases_lt v x) [
      | inl passed ↦
          let more = IsNotFalling-first x xs i ordered (omega arith) in
          omega arith
      | inr counted ↦ count_at_most-above v xs i (IsNotFalling-rest x xs ordered)
          (omega (arith, count_at_most-counted v x xs counted)) (omega arith)
    ]

-- if no number is 0, none is at most 0
pub count_at_most-zero : (xs : List ℕ) → ((i : ℕ) → i < length xs → 0 < get_or xs i 0) → count_at_most 0 xs ≡ 0
count_at_most-zero xs above =
    count_at_most-at 0 0 xs (omega arith) (λ i lt. absurd (omega arith)) (λ i le within. above i within)

-- if as many numbers are at most one value as at another, so it is without the first
same_rest : (v w x : ℕ) (xs : List ℕ) → v ≤ w → count_at_most v (x ∷ xs) ≡ count_at_most w (x ∷ xs)
    → count_at_most v xs ≡ count_at_most w xs
same_rest v w x xs le same =
    let rest = count_at_most-le v w xs le in
    elim (cases_lt v x) [
      | inl passed ↦
          elim (cases_lt w x) [
            | inl also ↦ omega (arith, count_at_most-passed v x xs passed, count_at_most-passed w x xs also)
            | inr in_w ↦ omega (arith, count_at_most-passed v x xs passed, count_at_most-counted w x xs in_w)
          ]
      | inr in_v ↦ omega (arith, count_at_most-counted v x xs in_v, count_at_most-counted w x xs (omega arith))
    ]

-- and each number is at most both or neither
decides_up : (v w : ℕ) (xs : List ℕ) (i : ℕ) → v ≤ w → count_at_most v xs ≡ count_at_most w xs → i < length xs
    → get_or xs i 0 ≤ w → get_or xs i 0 ≤ v
decides_up v w [] i le same within in_w = absurd (omega arith)
decides_up v w (x ∷ xs) zero le same within in_w =
    elim (cases_lt v x) [
      | inl passed ↦ absurd (omega (
        arith,
        count_at_most-passed v x xs passed,
        count_at_most-counted w x xs in_w,
        count_at_most-le v w xs le,
      ))
      | inr counted ↦ counted
    ]
decides_up v w (x ∷ xs) (suc i) le same within in_w =
    decides_up v w xs i le (same_rest v w x xs le same) (omega arith) in_w

-- two comparisons of one number that follow from each other are the same
leb_same : (a v w : ℕ) → (a ≤ v → a ≤ w) → (a ≤ w → a ≤ v) → leb a v ≡ leb a w
leb_same a v w up down =
    elim (cases_lt v a) [
      | inl above ↦
          elim (cases_lt w a) [
            | inl also ↦ lt-leb a v above ∙ sym (lt-leb a w also)
            | inr in_w ↦ let in_v = down in_w in absurd (omega arith)
          ]
      | inr in_v ↦ le-leb a v in_v ∙ sym (le-leb a w (up in_v))
    ]

-- a number at a place of a list compares alike with two values of one band
pub decides_at : (v w : ℕ) (xs : List ℕ) (i : ℕ) → count_at_most v xs ≡ count_at_most w xs → i < length xs
    → leb (get_or xs i 0) v ≡ leb (get_or xs i 0) w
decides_at v w xs i same within =
    elim (cases_lt w v) [
      | inl lt ↦
          leb_same (get_or xs i 0) v w (decides_up w v xs i (omega arith) (sym same) within) (λ in_w. omega arith)
      | inr le ↦ leb_same (get_or xs i 0) v w (λ in_v. omega arith) (decides_up v w xs i le same within)
    ]
