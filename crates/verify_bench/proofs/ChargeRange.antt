-- How large the charge of an interval is, and which of its parts it is.
use Rattle.std.{specs.Int.{w128}, proofs.{Math.Nat.{div-le_self, mul-le-mul_right, mul_assoc}, lemmas.Nat.{mul-le}}}
use Rattle.std.proofs.Common.{ℕ, ◌*◌, ◌+◌, ◌/◌, ◌^◌, ◌∙◌, ◌≡◌, ◌≤◌, Bool, Fits, arith, false, nat_lt, refl, sym, true}
use Rattle.verify_bench.specs.Common.{Both, Distance, Double, Mode, RateNumbers, Single, Time, charge_by}
use Rattle.verify_bench.specs.Groups.{way_by}

-- a part of the measure
share_range : (common over : ℕ) → common ≤ 10 ^ 18 → common / over ≤ 10 ^ 18
share_range common over most = omega (arith, most, div-le_self common over)

pub share_fits : (common over : ℕ) → common ≤ 10 ^ 18 → Fits w128 (common / over)
share_fits common over most = omega (arith, share_range common over most)

module _ (a common over : ℕ) (amount : a ≤ 10 ^ 6) (most : common ≤ 10 ^ 18) where
  -- the charge of a pulse
  pulse_range : 10000 * a * (common / over) ≤ 10 ^ 28
  pulse_range =
      mul-le (10000 * a) (common / over) (10 ^ 10) (10 ^ 18) (omega (arith, amount)) (share_range common over most)

  pub pulse_fits : Fits w128 (10000 * a * (common / over))
  pulse_fits = omega (arith, pulse_range)

  -- the charge of the distance
  distance_range : (pulses : ℕ) → pulses ≤ 2000 → pulses * (10000 * a * (common / over)) ≤ 2 * 10 ^ 31
  distance_range pulses few = mul-le pulses (10000 * a * (common / over)) 2000 (10 ^ 28) few pulse_range

  pub distance_bound : (pulses : ℕ) → pulses ≤ 2000 → pulses * (10000 * a * (common / over)) ≤ 202 * 10 ^ 29
  distance_bound pulses few = omega (arith, distance_range pulses few)

  pub distance_fits : (pulses : ℕ) → pulses ≤ 2000 → Fits w128 (pulses * (10000 * a * (common / over)))
  distance_fits pulses few = omega (arith, distance_range pulses few)

module _ (amount k common over : ℕ) (least : amount ≤ 10 ^ 6) (constant : k ≤ 200000) where
  -- the charge of the time
  rise_range : amount * k ≤ 2 * 10 ^ 11
  rise_range = mul-le amount k (10 ^ 6) 200000 least constant

  pub rise_fits : Fits w128 (amount * k)
  rise_fits = omega (arith, rise_range)

  time_range : common ≤ 10 ^ 18 → amount * k * (common / over) ≤ 2 * 10 ^ 29
  time_range most =
      mul-le (amount * k) (common / over) (2 * 10 ^ 11) (10 ^ 18) rise_range (share_range common over most)

  pub time_bound : common ≤ 10 ^ 18 → amount * k * (common / over) ≤ 202 * 10 ^ 29
  time_bound most = omega (arith, time_range most)

  pub time_fits : common ≤ 10 ^ 18 → Fits w128 (amount * k * (common / over))
  time_fits most = omega (arith, time_range most)

-- the charge of both
pub both_bound : (a c k common per over pulses : ℕ) → a ≤ 10 ^ 6 → c ≤ 10 ^ 6 → k ≤ 200000 → common ≤ 10 ^ 18
    → pulses ≤ 2000
    → pulses * (10000 * a * (common / per)) + c * k * (common / over) ≤ 202 * 10 ^ 29
both_bound a c k common per over pulses amount least constant most few =
    omega (arith, distance_range a common per amount most pulses few, time_range c k common over least constant most)

pub both_fits : (a c k common per over pulses : ℕ) → a ≤ 10 ^ 6 → c ≤ 10 ^ 6 → k ≤ 200000 → common ≤ 10 ^ 18
    → pulses ≤ 2000
    → Fits w128 (pulses * (10000 * a * (common / per)) + c * k * (common / over))
both_fits a c k common per over pulses amount least constant most few =
    omega (arith, both_bound a c k common per over pulses amount least constant most few)

module _ (mode : Mode) (k got common : ℕ) (r : RateNumbers) (p : ℕ) (same : got ≡ k) where
  -- in mode S the charge is the time's below the cross-over speed, and else the distance's
  pub slow_charge : (slow : Bool) → mode ≡ Single → slow ≡ nat_lt (10000 * p * r.a * r.e) (r.c * k * r.b) → slow ≡ true
      → r.c * got * (common / r.e) ≡ charge_by mode k common r p
  slow_charge slow is test below = rw (is, same, sym test ∙ below) refl

  pub fast_charge : (slow : Bool) → mode ≡ Single → slow ≡ nat_lt (10000 * p * r.a * r.e) (r.c * k * r.b) → slow ≡ false
      → p * (10000 * r.a * (common / r.b)) ≡ charge_by mode k common r p
  fast_charge slow is test above = rw (is, sym test ∙ above) refl

  pub slow_way : (slow : Bool) → mode ≡ Single → slow ≡ nat_lt (10000 * p * r.a * r.e) (r.c * k * r.b) → slow ≡ true
      → Time ≡ way_by mode k r p
  slow_way slow is test below = rw (is, sym test ∙ below) refl

  pub fast_way : (slow : Bool) → mode ≡ Single → slow ≡ nat_lt (10000 * p * r.a * r.e) (r.c * k * r.b) → slow ≡ false
      → Distance ≡ way_by mode k r p
  fast_way slow is test above = rw (is, sym test ∙ above) refl

  pub double_way : mode ≡ Double → Both ≡ way_by mode k r p
  double_way is = rw is refl

  -- in mode D it is both
  pub double_charge : mode ≡ Double
      → p * (10000 * r.a * (common / r.b)) + r.c * got * (common / r.e) ≡ charge_by mode k common r p
  double_charge is = rw (is, same) refl

-- an interval is charged at most 41 * 10^9 of the smallest units of money, of which each has k * common units of charge
module _ (k common : ℕ) (least : 500 ≤ k) where
  wide : 500 * common ≤ k * common
  wide = mul-le-mul_right common least

  distance_money : (a over pulses : ℕ) → a ≤ 10 ^ 6 → pulses ≤ 2000
      → pulses * (10000 * a * (common / over)) ≤ 20000000000000 * common
  distance_money a over pulses amount few =
      let pulse : 10000 * a * (common / over) ≤ 10000000000 * common =
      mul-le (10000 * a) (common / over) 10000000000 common (omega (arith, amount)) (div-le_self common over) in
      omega (arith, mul-le pulses (10000 * a * (common / over)) 2000 (10000000000 * common) few pulse)

  time_money : (c over : ℕ) → c ≤ 10 ^ 6 → c * k * (common / over) ≤ 1000000 * (k * common)
  time_money c over amount =
      rw (sym (mul_assoc 1000000 k common)) (mul-le (c * k) (common / over) (1000000 * k) common
      (mul-le-mul_right k (omega (arith, amount))) (div-le_self common over))

  pub distance_few : (a over pulses : ℕ) → a ≤ 10 ^ 6 → pulses ≤ 2000
      → pulses * (10000 * a * (common / over)) ≤ 41 * 10 ^ 9 * (k * common)
  distance_few a over pulses amount few = omega (arith, wide, distance_money a over pulses amount few)

  pub time_few : (c over : ℕ) → c ≤ 10 ^ 6 → c * k * (common / over) ≤ 41 * 10 ^ 9 * (k * common)
  time_few c over amount = omega (arith, time_money c over amount)

  pub both_few : (a c per over pulses : ℕ) → a ≤ 10 ^ 6 → c ≤ 10 ^ 6 → pulses ≤ 2000
      → pulses * (10000 * a * (common / per)) + c * k * (common / over) ≤ 41 * 10 ^ 9 * (k * common)
  both_few a c per over pulses amount least few =
      omega (arith, wide, distance_money a per pulses amount few, time_money c over least)
