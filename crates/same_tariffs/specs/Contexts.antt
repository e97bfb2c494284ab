-- Rules: the contexts in which the intervals and the hirings of runs are charged.
use Rattle.std.specs.Prelude.{ℕ, ◌≡◌, min, unsigned_abs}
use Rattle.{drive_modes.specs.Constant.{greatest_constant, least_constant}, meter_model.specs.Interval.{pulses_so_far}}
use Rattle.same_tariffs.specs.Common.{IsFromTo, IsMeterContext, IsOffsetList, IsSound, IsWritable, Meter, MeterContext}
use Rattle.same_tariffs.specs.Common.{Setting, Tree, context_at, context_now, context_of, day_of, initial_by}
use Rattle.same_tariffs.specs.Common.{local_second, minute_of_day, most_pulses, rate_place, sound_of, ticks_so_far}

-- a setting of a tariff is in range if it has the parts of the tariff, which is a sound one that a text can have, the
-- constant is 500 to 200,000, and the offsets are a list of offsets
pub record IsSettingInRange (t : Tree) (s : Setting) : Type 0 where
  pub parts : s.tariff ≡ sound_of t
  pub writable : IsWritable t
  pub sound : IsSound t
  pub constant : IsFromTo least_constant greatest_constant s.constant
  pub offsets : IsOffsetList s.offsets

-- the context of a meter at a second has its position and its zone, the local day and the minute of the second, and the
-- ticks and the pulses of its trip, of which it counts at most 2 * 10^13
abbrev pub meter_context_at : Setting → (second : ℕ) → Meter → MeterContext
meter_context_at s second m = record {
  position = m.position;
  zone = m.zone;
  day = unsigned_abs (day_of (local_second s.offsets second));
  minute = minute_of_day (local_second s.offsets second);
  ticks = ticks_so_far m.trip;
  pulses = min (pulses_so_far m.trip) most_pulses;
}

-- a context of a meter at a hiring has no ticks and no pulses
abbrev pub without_trip : MeterContext → MeterContext
without_trip c = record c { ticks = 0; pulses = 0 }

-- the running interval is charged in the lines of a context if that context is one of a meter under the tariff, and the
-- same rate holds first in it as at the beginning of the interval
pub record IsChargedIn (t : Tree) (s : Setting) (m : Meter) (c : MeterContext) : Type 0 where
  pub context : IsMeterContext t c
  pub rate : rate_place t (context_of s m) ≡ rate_place t (context_at t s.constant c)

-- a meter that is hired now has the fees of a context if that context is one of a meter under the tariff, and a hiring
-- begins with the same in it as now
pub record IsHiredIn (t : Tree) (s : Setting) (m : Meter) (c : MeterContext) : Type 0 where
  pub context : IsMeterContext t c
  pub fee : initial_by t (context_now s m) ≡ initial_by t (context_at t s.constant c)
