-- For proofs: the meter as the supply comes, before it is known what becomes of a held trip. Supply, of meter_model,
-- says what an `Up` comes to.
use Rattle.{std.specs.Prelude.{ℕ}, verify_bench.specs.Common.{Meter, Off, powered}}

-- a meter is waking at a second if it is as the coming supply makes it, but still in Off
abbrev pub waking : (second : ℕ) → Meter → Meter
waking second m = record (powered second m) { operating = Off }
