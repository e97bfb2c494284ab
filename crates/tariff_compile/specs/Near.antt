-- Rules: contexts of one trip that follow each other shortly.
use Rattle.std.specs.Prelude.{ℕ, ◌+◌, ◌≡◌, ◌≤◌}
use Rattle.tariff_compile.specs.Common.{Context}

-- the second context is near the first if it has at most `further` more pulses and at most `longer` more ticks, and
-- is the same otherwise
pub record IsNear (further longer : ℕ) (x y : Context) : Type 0 where
  pub position : y.position ≡ x.position
  pub zone : y.zone ≡ x.zone
  pub weekday : y.weekday ≡ x.weekday
  pub month_day : y.month_day ≡ x.month_day
  pub holiday : y.holiday ≡ x.holiday
  pub minute : y.minute ≡ x.minute
  pub pulses : (x.pulses ≤ y.pulses) × (y.pulses ≤ x.pulses + further)
  pub ticks : (x.ticks ≤ y.ticks) × (y.ticks ≤ x.ticks + longer)
