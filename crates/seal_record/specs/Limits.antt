-- Rules: the limits of parameters and seals.
use Rattle.std.specs.Prelude.{ℕ, ◌^◌}
pub use Rattle.drive_modes.specs.Constant.{greatest_constant, least_constant}
pub use Rattle.interval_clock.specs.Offsets.{greatest_offset}

-- a text of parameters has at most 65,536 bytes
abbrev pub longest_text : ℕ
longest_text = 65536

-- a taxi identifier has at most 16 characters
abbrev pub longest_taxi : ℕ
longest_taxi = 16

-- a trip is held for at most 600 seconds
abbrev pub longest_hold : ℕ
longest_hold = 600

-- a list of offsets has at most 32 pairs
abbrev pub most_offsets : ℕ
most_offsets = 32

-- the first year of a date of securing is 2000
abbrev pub first_year : ℕ
first_year = 2000

-- the last year of a date of securing is 2199
abbrev pub last_year : ℕ
last_year = 2199

-- the day number of 2000-01-01 is 10,957
abbrev pub first_day : ℕ
first_day = 10957

-- the day number of 2199-12-31 is 84,005
abbrev pub last_day : ℕ
last_day = 84005

-- the number of a seal is at most 10^15
abbrev pub last_seal_number : ℕ
last_seal_number = 10 ^ 15

-- a digest has 32 bytes
abbrev pub digest_size : ℕ
digest_size = 32

-- the money of a tariff has at most 3 decimals
abbrev pub most_decimals : ℕ
most_decimals = 3
