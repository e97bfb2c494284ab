-- Rules: the charge of a measuring interval.
use Rattle.std.specs.Prelude.{ℕ, ◌*◌, ◌+◌, if◌then◌else◌, nat_lt}
use Rattle.drive_modes.specs.Common.{Double, Mode, Single, Weights}

-- in mode S an interval of p pulses is charged for its time if its distance costs less, and otherwise for its distance;
-- in mode D it is charged for both together
abbrev pub charge_of : Mode → Weights → ℕ → ℕ
charge_of Single w p = if nat_lt (p * w.per_pulse) w.per_tick then w.per_tick else p * w.per_pulse
charge_of Double w p = p * w.per_pulse + w.per_tick
