-- How many display steps a trip can show.
use Rattle.std.proofs.{Common.{ℕ, ◌*◌, ◌+◌, ◌-◌, ◌/◌, ◌<◌, ◌^◌, ◌≡◌, ◌≤◌, arith, inl, inr}, lemmas.Bool.{cases_lt}}
use Rattle.std.proofs.Math.Nat.{mul-add, mul-le-mul_left, mul-le-mul_right, mul_assoc, mul_comm}
use Rattle.drive_modes.specs.{Fare.{quotient}, declared.meterage.Rounding.{Rounding, TheVariants.{Ahead, Behind}}}

quotient_below : (z y n : ℕ) → z < y * n + y → z / y ≤ n
quotient_below z y n below = elim (cases_lt n (z / y)) [
  | inl many ↦
      let more : y * (n + 1) ≤ y * (z / y) = mul-le-mul_left y (omega (arith, many)) in
      let split : y * (n + 1) ≡ y * n + y * 1 = mul-add y n 1 in
      absurd (omega (arith, more, split))
  | inr few ↦ few
]

few_quotient : (rounding : Rounding) (x y n : ℕ) → 0 < y → x ≤ y * n → quotient rounding x y ≤ n
few_quotient Behind x y n some most = quotient_below x y n (omega arith)
few_quotient Ahead x y n some most = quotient_below (x + (y - 1)) y n (omega arith)

-- charges of at most 41 * 10^9 of the smallest units of money for each tick make fewer than 2^64 display steps
pub few_steps : (rounding : Rounding) (charge cover unit step ticks : ℕ) → 1 ≤ step → 1 ≤ unit → ticks ≤ 8640000
    → charge ≤ 41000000000 * unit * ticks
    → quotient rounding (charge - cover) (step * unit) ≤ 2 ^ 64 - 1
few_steps rounding charge cover unit step ticks some least time few =
    let wide : unit ≤ step * unit = omega (arith, mul-le-mul_right {m = 1} {n = step} unit some) in
    let same : 41000000000 * unit * ticks ≡ unit * (41000000000 * ticks) =
    rw (mul_comm 41000000000 unit) (mul_assoc unit 41000000000 ticks) in
    let wider : unit * (41000000000 * ticks) ≤ step * unit * (41000000000 * ticks) =
    mul-le-mul_right (41000000000 * ticks) wide in
    let below : quotient rounding (charge - cover) (step * unit) ≤ 41000000000 * ticks = few_quotient rounding
    (charge - cover) (step * unit) (41000000000 * ticks) (omega (arith, wide)) (omega (arith, few, same, wider)) in
    omega (arith, below)

pub some_unit : (k common : ℕ) → 500 ≤ k → 1 ≤ common → 1 ≤ k * common
some_unit k common least some = omega (arith, mul-le-mul_right common least)
