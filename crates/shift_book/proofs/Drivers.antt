-- Characters of drivers at the front of a text.
use Rattle.{std.specs.List.{prefix_len}, shift_book.specs.Marks.{PassAll}}
use Rattle.std.proofs.Common.{[], ℕ, ◌++◌, ◌+◌, ◌∷◌, ◌≡◌, Bool, List, arith, cond, false, length, refl, suc, take, true}

passed : (test : ℕ → Bool) (b : Bool) (x : ℕ) (xs : List ℕ) → test x ≡ b → PassAll test (take (prefix_len test xs) xs)
    → PassAll test (take (cond b (1 + prefix_len test xs) 0) (x ∷ xs))
passed test true x xs e h =
    let one : 1 + prefix_len test xs ≡ suc (prefix_len test xs) = omega arith in
    rw one (e, h)
passed test false x xs e h = tt

-- what is taken from the front passes the test
pub front_passes : (test : ℕ → Bool) (xs : List ℕ) → PassAll test (take (prefix_len test xs) xs)
front_passes test [] = tt
front_passes test (x ∷ xs) = passed test (test x) x xs refl (front_passes test xs)

-- and all of it is taken if what follows doesn't pass
pub whole_front : (test : ℕ → Bool) (xs rest : List ℕ) → PassAll test xs → prefix_len test rest ≡ 0
    → prefix_len test (xs ++ rest) ≡ length xs
whole_front test [] rest all stops = stops
whole_front test (x ∷ xs) rest all stops = rw all.0 (omega (arith, whole_front test xs rest all.1 stops))
