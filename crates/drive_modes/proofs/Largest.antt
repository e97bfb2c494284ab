-- The largest fare is shown from some number of display steps on.
use Rattle.std.proofs.{Common.{ℕ, ◌*◌, ◌<◌, ◌≡◌, ◌≤◌, ◌⊎◌, arith, inl, inr, min, refl, suc, zero}, lemmas.Nat.{mul-le}}
use Rattle.{std.proofs.lemmas.Bool.{cases_lt}, taxi_units.specs.Money.{largest_display_step}}
use Rattle.drive_modes.specs.Fare.{shown_fare}

-- the value of at most so many display steps
pub steps_value : (step n : ℕ) → step ≤ largest_display_step → step * min n 100000000 ≤ 100000000000000
steps_value step n small = mul-le step (min n 100000000) largest_display_step 100000000 small (omega arith)

large : (initial minimum step n : ℕ) → 100000000 ≤ n
    → shown_fare initial minimum step (min n 100000000) ≡ shown_fare initial minimum step n
large initial minimum zero n many = omega arith
large initial minimum (suc k) n many =
    let few : 1 * 100000000 ≤ suc k * min n 100000000 =
    mul-le 1 100000000 (suc k) (min n 100000000) (omega arith) (omega arith) in
    let more : 1 * 100000000 ≤ suc k * n = mul-le 1 100000000 (suc k) n (omega arith) many in
    omega (arith, few, more)

-- a hundred million display steps show what more of them show
pub most_steps : (initial minimum step n : ℕ)
    → shown_fare initial minimum step (min n 100000000) ≡ shown_fare initial minimum step n
most_steps initial minimum step n = either (cases_lt n 100000000)
  where
    either : (n < 100000000) ⊎ (100000000 ≤ n)
        → shown_fare initial minimum step (min n 100000000) ≡ shown_fare initial minimum step n
    either (inl few) = let same : min n 100000000 ≡ n = omega arith in rw same refl
    either (inr many) = large initial minimum step n many
