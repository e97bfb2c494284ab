-- The bytes of a list, one by one.
use Rattle.std.specs.List.{AllByRecursion}
use Rattle.std.proofs.{Common.{[], ℕ, ◌<◌, ◌∷◌, Fits, List, get_or, suc, w8}, Math.Facts.{Fits-lt-pow}}

below : (xs : List ℕ) → ((i : ℕ) → get_or xs i 0 < 256) → AllByRecursion (λ x. x < 256) xs
below [] each = tt
below (x ∷ xs) each = (each 0, below xs (λ i. each (suc i)))

-- what fits a byte at each place
pub all_bytes : (xs : List ℕ) → ((i : ℕ) → Fits w8 (get_or xs i 0)) → AllByRecursion (λ x. x < 256) xs
all_bytes xs each = below xs (λ i. Fits-lt-pow {w = w8} (each i))
