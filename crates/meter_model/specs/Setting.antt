-- Rules: what the meter goes by, its tariff and its secured parameters.
use Rattle.std.specs.Prelude.{[], ℕ, ℤ, ◌*◌, ◌∷◌, ◌≡◌, List}
use Rattle.{taxi_units.specs.{Time.{first_second}, declared.receipt.Stamp.{Stamp}}, tariff_tree.specs.Tree.{Tree}}
use Rattle.drive_modes.specs.declared.{charges.Mode.{Mode}, meterage.Rounding.{Rounding}}
use Rattle.interval_clock.specs.{LocalTime.{local_second, local_time_of}, declared.local_time.LocalTime.{LocalTime}}
use Rattle.seal_record.specs.declared.{params.Params.{Params}, seal.Seal.{Seal}}
use Rattle.{tariff_check.specs.SoundTariff.{sound_of}, meter_model.specs.Common.{SoundTariff}}

-- a setting has the parts of the tariff, the constant of the taximeter, how time and distance share in the fare, how
-- long a trip may be held without supply, and the offsets from UTC
pub record Setting : Type 0 where
  pub tariff : SoundTariff
  pub constant : ℕ
  pub mode : Mode
  pub hold_time : ℕ
  pub offsets : List (ℕ × ℤ)

-- a meter goes by the parts of a tariff and by the constant, the mode, the hold and the offsets of parameters
abbrev pub setting_by : Tree → Params → Setting
setting_by t params = record {
  tariff = sound_of t;
  constant = params.constant;
  mode = params.mode;
  hold_time = params.hold_time;
  offsets = params.offsets;
}

-- a meter under one offset goes by the parts of a tariff and its own parameters, with that offset at all seconds
abbrev pub under_offset : Tree → (k : ℕ) → Mode → (hold_time : ℕ) → (offset : ℤ) → Setting
under_offset t k mode hold offset =
    record { tariff = sound_of t; constant = k; mode = mode; hold_time = hold; offsets = (first_second, offset) ∷ [] }

-- a seal is that of a setting if it secures the setting's constant, mode, hold and offsets
pub record IsSealOf (s : Setting) (seal : Seal) : Type 0 where
  pub constant : seal.params.constant ≡ s.constant
  pub mode : seal.params.mode ≡ s.mode
  pub hold_time : seal.params.hold_time ≡ s.hold_time
  pub offsets : seal.params.offsets ≡ s.offsets

-- the smallest unit of money has as many units of charge as the constant times the common measure of the tariff
abbrev pub unit_of : Setting → ℕ
unit_of s = s.constant * s.tariff.measure

-- the rounding of a setting is the one by which its tariff rounds the fare to the display step
abbrev pub rounding_of : Setting → Rounding
rounding_of s = s.tariff.step.1

-- a display step has as many units of charge as the step has smallest units of money, times the units of charge in each
abbrev pub modulus_of : Setting → ℕ
modulus_of s = s.tariff.step.0 * unit_of s

-- the local time at a second is the one that the offsets of the setting give
abbrev pub local_at : Setting → (second : ℕ) → LocalTime
local_at s second = local_time_of (local_second s.offsets second)

-- the stamp of a local time has its date and its second of the day
abbrev pub stamp_of : LocalTime → Stamp
stamp_of local = record { year = local.year; month = local.month; date = local.date; second = local.second }

-- the stamp of a second is that of its local time
abbrev pub stamp_at : Setting → (second : ℕ) → Stamp
stamp_at s second = stamp_of (local_at s second)
