-- Rules: the charge of a measuring interval, by the numbers of the rate that is in force.
use Rattle.std.specs.Prelude.{ℕ, ◌*◌, ◌+◌, ◌/◌, if◌then◌else◌, nat_lt}
use Rattle.drive_modes.specs.declared.charges.Mode.{Mode, TheVariants.{Double, Single}}
use Rattle.{tariff_check.specs.{Parts.{RateNumbers}, SoundLookups.{rate_in_force}}, meter_model.specs.Setting.{Setting}}
use Rattle.meter_model.specs.Common.{Context}

-- the charge of the distance of p pulses is what p times 10,000 / k decimetres cost at a per b decimetres; it is in
-- units of charge, of which k times the common measure make the smallest unit of money
abbrev pub distance_charge : (common : ℕ) → RateNumbers → (p : ℕ) → ℕ
distance_charge common r p = p * (10000 * r.a * (common / r.b))

-- the charge of a tenth of a second is what it costs at c per e tenths of a second; it is in units of charge, of which
-- k times the common measure make the smallest unit of money
abbrev pub time_charge : (k common : ℕ) → RateNumbers → ℕ
time_charge k common r = r.c * k * (common / r.e)

-- the charge of an interval of p pulses in mode S is that of its time below the cross-over speed, and else that of its
-- distance; that speed is the time tariff value, c per e, divided by the distance tariff value, a per b; in mode D the
-- charge is that of both together
abbrev pub charge_by : Mode → (k common : ℕ) → RateNumbers → (p : ℕ) → ℕ
charge_by Single k common r p =
    if nat_lt (10000 * p * r.a * r.e) (r.c * k * r.b) then time_charge k common r else distance_charge common r p
charge_by Double k common r p = distance_charge common r p + time_charge k common r

-- the charge of an interval of p pulses in a context is made by the rate that is in force in it, by the mode and by the
-- constant of the setting
abbrev pub charge_at : Setting → Context → (p : ℕ) → ℕ
charge_at s x p = charge_by s.mode s.constant s.tariff.measure (rate_in_force s.tariff x) p
