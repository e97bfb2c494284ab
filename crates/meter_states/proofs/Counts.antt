-- How often each number stands in a list.
use Rattle.std.proofs.Common.{[], ℕ, ◌++◌, ◌+◌, ◌<◌, ◌∙◌, ◌∷◌, ◌≡◌, List, ap, arith, get_or, refl, set, suc, sym, zero}
use Rattle.{std.proofs.lemmas.Grind.{common_steps}, meter_model.specs.Supplements.{counts_from, counts_of}}
use Rattle.meter_states.specs.Common.{times}

times-same : (n : ℕ) (xs : List ℕ) → times n (xs ++ n ∷ []) ≡ times n xs + 1
times-same n xs = grind (arith, common_steps)

times-other : (n k : ℕ) (xs : List ℕ) → k < n → times n (xs ++ k ∷ []) ≡ times n xs
times-other n k xs below = grind (arith, common_steps)

times-above : (n k : ℕ) (xs : List ℕ) → n < k → times n (xs ++ k ∷ []) ≡ times n xs
times-above n k xs above = grind (arith, common_steps)

counts-other : (many n k : ℕ) (xs : List ℕ) → k < n → counts_from many n (xs ++ k ∷ []) ≡ counts_from many n xs
unfolding counts_from
counts-other zero n k xs below = refl
counts-other (suc many) n k xs below =
    let head = times-other n k xs below in
    let tail = counts-other many (n + 1) k xs (omega arith) in
    cc

-- the count at a place is that of its number
pub counts-at : (many n i : ℕ) (xs : List ℕ) → i < many → get_or (counts_from many n xs) i 0 ≡ times (n + i) xs
unfolding counts_from
counts-at zero n i xs within = absurd (omega arith)
counts-at (suc many) n zero xs within = ap (λ (k : ℕ). times k xs) (omega arith)
counts-at (suc many) n (suc i) xs within =
    let same : n + 1 + i ≡ n + suc i = omega arith in
    counts-at many (n + 1) i xs (omega arith) ∙ ap (λ (k : ℕ). times k xs) same

-- one number more adds one to its count
pub counts-more : (many n i k : ℕ) (xs : List ℕ) → i < many → k ≡ n + i
    → set (counts_from many n xs) i (times k xs + 1) ≡ counts_from many n (xs ++ k ∷ [])
unfolding counts_from
counts-more zero n i k xs within is = absurd (omega arith)
counts-more (suc many) n zero k xs within is =
    let first : k ≡ n = omega arith in
    let head = times-same k xs in
    let tail = counts-other many (n + 1) k xs (omega arith) in
    cc
counts-more (suc many) n (suc i) k xs within is =
    let head = sym (times-above n k xs (omega arith)) in
    let tail = counts-more many (n + 1) i k xs (omega arith) (omega arith) in
    cc

-- no number is in the empty list
pub counts-none : counts_of [] ≡ 0 ∷ 0 ∷ 0 ∷ 0 ∷ 0 ∷ 0 ∷ 0 ∷ 0 ∷ 0 ∷ 0 ∷ 0 ∷ 0 ∷ 0 ∷ 0 ∷ 0 ∷ 0 ∷ []
unfolding counts_from
counts-none = refl
