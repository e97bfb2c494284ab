-- Rules: the display step of a tariff.
use Rattle.{std.specs.Prelude.{ℕ}, tariff_check.specs.{Common.{Rounding, Tree}, SoundTariff.{sound_of}}}

-- the display step of a tariff, in the smallest units of money, with its rounding, is that of its first `step` line;
-- without such a line, which a sound tariff has, it is 0
abbrev pub display_step : Tree → ℕ × Rounding
display_step t = (sound_of t).step
