-- Rules: the cross-over speed, and the weights of a rate.
use Rattle.std.specs.Prelude.{ℕ, ◌*◌, ◌<◌, ◌≡◌}
use Rattle.drive_modes.specs.Common.{Weights}

-- a rate is `a` of the smallest units of money for `b` decimetres, and `c` of them for `e` tenths of a second
pub record Rate : Type 0 where
  pub a : ℕ
  pub b : ℕ
  pub c : ℕ
  pub e : ℕ

-- weights are those of a rate if a pulse costs what 10,000 / k decimetres cost, since k pulses make a kilometre, and an
-- interval costs what a tenth of a second costs; `measure` units of charge make the smallest unit of money
pub record AreWeightsOf (rate : Rate) (k measure : ℕ) (w : Weights) : Type 0 where
  pub per_pulse : w.per_pulse * (rate.b * k) ≡ measure * (10000 * rate.a)
  pub per_tick : w.per_tick * rate.e ≡ measure * rate.c

-- p pulses in a tenth of a second are below the cross-over speed if their speed, 36,000,000 p / k metres an hour, is
-- less than 3600 c b / (a e) metres an hour, the speed at which time and distance cost the same
abbrev pub IsBelowCrossOver : Rate → (k p : ℕ) → Type 0
IsBelowCrossOver rate k p = 36000000 * p * (rate.a * rate.e) < 3600 * rate.c * rate.b * k
