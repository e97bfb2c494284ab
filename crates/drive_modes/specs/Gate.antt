-- Rules: the pulses that are counted in a measuring interval.
use Rattle.std.specs.Prelude.{ℕ, ◌+◌, min}

-- a gate that has counted `pulses` pulses of an interval counts their sum after n more, or 2,000 if the sum is greater
abbrev pub counted : (pulses n : ℕ) → ℕ
counted pulses n = min 2000 (pulses + n)
