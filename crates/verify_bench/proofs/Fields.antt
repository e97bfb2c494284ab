-- The fields of a row.
use Rattle.std.proofs.Common.{[], ℕ, ◌∷◌, ◌≡◌, ◌≤◌, List, None, Some, arith, length, suc, zero}
use Rattle.csv.specs.Records.{field_at}

-- a row of three fields has what stands at its places
pub three_are_all : (fields : List (List ℕ)) (a b c : List ℕ) → length fields ≡ 3 → field_at fields 0 ≡ Some a
    → field_at fields 1 ≡ Some b → field_at fields 2 ≡ Some c
    → fields ≡ a ∷ b ∷ c ∷ []
unfolding field_at
three_are_all [] a b c three first second third = absurd (omega arith)
three_are_all (x ∷ []) a b c three first second third = absurd (omega arith)
three_are_all (x ∷ y ∷ []) a b c three first second third = absurd (omega arith)
three_are_all (x ∷ y ∷ z ∷ []) a b c three first second third = cc
three_are_all (x ∷ y ∷ z ∷ u ∷ more) a b c three first second third = absurd (omega arith)

-- if no field stands at a place, the row is no longer
pub none_beyond : (fields : List (List ℕ)) (place : ℕ) → field_at fields place ≡ None → length fields ≤ place
unfolding field_at
none_beyond [] place none = omega arith
none_beyond (x ∷ fields) zero none = absurd cc
none_beyond (x ∷ fields) (suc place) none = let rest = none_beyond fields place none in omega arith
