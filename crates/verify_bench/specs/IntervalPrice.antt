-- For proofs: the price of an interval, as the bench finds it. Groups says what its rate and its way are, and Charge,
-- of meter_model, what its charge is.
use Rattle.std.specs.Prelude.{ℕ, ◌*◌, ◌≡◌, ◌≤◌}
use Rattle.verify_bench.specs.Common.{Context, Mode, RateNumbers, Setting, charge_at, charge_by, unit_of}
use Rattle.verify_bench.specs.{Groups.{rate_place_of, way_by, way_of}, declared.pricing.Price.{Price}}
use Rattle.verify_bench.specs.Limits.{most_money}

-- a price is that of an interval if it has the place of its rate line, its way and its charge, which is at most
-- 41 * 10^9 of the smallest units of money
pub record IsPriceOf (s : Setting) (x : Context) (pulses : ℕ) (price : Price) : Type 0 where
  pub place : price.place ≡ rate_place_of s x
  pub way : price.way ≡ way_of s x pulses
  pub charge : price.charge ≡ charge_at s x pulses
  pub few : price.charge ≤ most_money * unit_of s

-- a price is by the numbers of a rate if it has the way and the charge that they give, at most 41 * 10^9 of the
-- smallest units of money
pub record IsPriceBy (mode : Mode) (k common : ℕ) (r : RateNumbers) (pulses : ℕ) (price : Price) : Type 0 where
  pub way : price.way ≡ way_by mode k r pulses
  pub charge : price.charge ≡ charge_by mode k common r pulses
  pub few : price.charge ≤ most_money * (k * common)
