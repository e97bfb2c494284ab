-- Fares of many steps.
use Rattle.std.proofs.{Common.{ℕ, ◌*◌, ◌+◌, ◌≡◌, ◌≤◌, arith, inl, inr, max, min}, Math.Nat.{mul-le-mul_left}}
use Rattle.{std.proofs.lemmas.Bool.{cases_lt}, taxi_units.specs.Money.{largest_amount}}
use Rattle.verify_bench.specs.Common.{shown_fare}

-- no more than eight digits of the steps count
pub capped_fare : (initial minimum step steps : ℕ) → 1 ≤ step → min
    (max (initial + step * min steps largest_amount) minimum) largest_amount ≡ shown_fare initial minimum step steps
capped_fare initial minimum step steps some = elim (cases_lt largest_amount steps) [
  | inl many ↦
      let least : min steps largest_amount ≡ largest_amount = omega arith in
      let product : largest_amount ≤ step * largest_amount = omega arith in
      let more : step * largest_amount ≤ step * steps = mul-le-mul_left step (omega arith) in
      rw least (omega arith)
  | inr few ↦
      let same : min steps largest_amount ≡ steps = omega arith in
      rw same (omega arith)
]
