-- The order of contexts.
use Rattle.std.proofs.{Common.{[], ℕ, ◌<◌, ◌∷◌, ◌≡◌, ◌≤◌, List, arith, inl, inr}, lemmas.Bool.{cases_lt}}
use Rattle.tariff_compare.specs.Common.{IsBefore}

-- if two numbers are the same, what follows decides
pub strip : (a b : ℕ) (xs ys : List ℕ) → a ≡ b → IsBefore (a ∷ xs) (b ∷ ys) → IsBefore xs ys
strip a b xs ys same (inl lt) = absurd (omega (arith, lt, same))
strip a b xs ys same (inr both) = both.1

-- a greater number doesn't come before a lower one
pub refused : (a b : ℕ) (xs ys : List ℕ) → b < a → IsBefore (a ∷ xs) (b ∷ ys) → ⊥
refused a b xs ys gt (inl lt) = omega (arith, lt, gt)
refused a b xs ys gt (inr both) = let same = both.0 in omega (arith, same, gt)

-- numbers that are each at most others
abbrev pub AllLe : List ℕ → List ℕ → Type 0
AllLe [] [] = Unit {0}
AllLe [] (y ∷ ys) = ⊥
AllLe (x ∷ xs) [] = ⊥
AllLe (x ∷ xs) (y ∷ ys) = (x ≤ y) × AllLe xs ys

-- what is at most what comes before comes before too
pub le_before : (xs ys zs : List ℕ) → AllLe xs ys → IsBefore ys zs → IsBefore xs zs
le_before [] [] zs le before = before
le_before [] (y ∷ ys) zs le before = absurd le
le_before (x ∷ xs) [] zs le before = absurd le
le_before (x ∷ xs) (y ∷ ys) [] le before = before
le_before (x ∷ xs) (y ∷ ys) (z ∷ zs) le (inl lt) = inl (omega (arith, lt, le.0))
le_before (x ∷ xs) (y ∷ ys) (z ∷ zs) le (inr both) =
    let same : y ≡ z = both.0 in
    elim (cases_lt x z) [
      | inl lt ↦ inl lt
      | inr ge ↦ inr (omega (arith, same, le.0, ge), le_before xs ys zs le.1 both.1)
    ]
