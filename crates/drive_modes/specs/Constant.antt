-- Rules: the range of the constant.
use Rattle.std.specs.Prelude.{ℕ}

-- a constant is at least 500 pulses a kilometre
abbrev pub least_constant : ℕ
least_constant = 500

-- a constant is at most 200,000 pulses a kilometre
abbrev pub greatest_constant : ℕ
greatest_constant = 200000
