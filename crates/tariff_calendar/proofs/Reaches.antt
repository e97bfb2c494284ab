-- How far a value may grow while as many numbers are at most it.
use Rattle.std.proofs.Common.{ℕ, ◌+◌, ◌<◌, ◌≡◌, ◌≤◌, List, arith, get_or, length}
use Rattle.tariff_calendar.specs.Lists.{IsNotFalling, count_at_most}
use Rattle.tariff_calendar.proofs.Counts.{IsNotFalling-le, count_at_most-at}

-- a value that has n numbers at most it, and doesn't reach the next one, has n
pub count-before : (v w n : ℕ) (xs : List ℕ) → IsNotFalling xs → n ≤ length xs → ((i : ℕ) → i < n → get_or xs i 0 ≤ v)
    → (n < length xs → w < get_or xs n 0) → v ≤ w → count_at_most w xs ≡ n
count-before v w n xs ordered few counted next le =
    count_at_most-at w n xs few (λ i below. omega (arith, counted i below)) (λ i from within.
    let here = next (omega arith) in
    let later = IsNotFalling-le xs n i ordered from within in
    omega (arith, here, later))

-- the numbers before one that is at most a value are at most it too
pub counted-before : (v middle : ℕ) (xs : List ℕ) → IsNotFalling xs → middle < length xs → get_or xs middle 0 ≤ v
    → (i : ℕ) → i < middle + 1 → get_or xs i 0 ≤ v
counted-before v middle xs ordered within here i below =
    let less = IsNotFalling-le xs i middle ordered (omega arith) within in
    omega (arith, less, here)
