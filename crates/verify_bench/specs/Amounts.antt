-- For proofs: the amounts of supplements, number by number. Supplements, of meter_model, says what they come to.
use Rattle.std.specs.Prelude.{ℕ, ◌*◌, ◌+◌, List, suc, zero}
use Rattle.verify_bench.specs.Common.{times}

-- the amounts of `many` numbers from the first on are those of each as often as it stands in a list
unfoldable pub amounts_among : (amount : ℕ → ℕ) → (first many : ℕ) → List ℕ → ℕ
amounts_among amount first zero numbers = 0
amounts_among amount first (suc many) numbers =
    times first numbers * amount first + amounts_among amount (first + 1) many numbers
