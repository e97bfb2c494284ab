-- Rules: a rate by the nearest amounts for other measures, and how far these are off.
use Rattle.std.specs.Prelude.{ℕ, ◌%◌, ◌*◌, ◌+◌, ◌-◌, ◌/◌, ◌==◌, ◌^◌, ◌≤◌, if◌then◌else◌, max, min}
use Rattle.near_commands.specs.Common.{Measures, RateNumbers}

-- the measures of an exponent j are 10^j decimetres and 36 * 10^(j - 2) tenths of a second
abbrev pub measures_at : (j : ℕ) → Measures
measures_at j = record { distance = 10 ^ j; time = 36 * 10 ^ (j - 2) }

-- an amount for a measure is told for another one by the nearest whole amount, a half rounded up
unfoldable pub nearest : (amount measure other : ℕ) → ℕ
nearest amount measure other = (2 * amount * other + measure) / (2 * measure)

-- a rate is told for measures by the nearest amounts
abbrev pub near_rate : Measures → RateNumbers → RateNumbers
near_rate m r =
    record { a = nearest r.a r.b m.distance; b = m.distance; c = nearest r.c r.e m.time; e = m.time }

-- two numbers are apart by what the greater one is more
abbrev pub apart : (x y : ℕ) → ℕ
apart x y = (x - y) + (y - x)

-- a quotient is rounded up if one more is taken for a remainder
abbrev pub rounded_up : (number divisor : ℕ) → ℕ
rounded_up number divisor = number / divisor + min 1 (number % divisor)

-- the share by which the price of a near amount is off is counted in parts of 10^9, and rounded up; it is 0 for an
-- amount of 0
unfoldable pub share_of : (amount measure near other : ℕ) → ℕ
share_of amount measure near other =
    if amount == 0 then 0 else rounded_up (10 ^ 9 * apart (near * measure) (amount * other)) (amount * other)

-- the share of a near rate is the greater one of its two amounts
abbrev pub share_for : (given near : RateNumbers) → ℕ
share_for r n = max (share_of r.a r.b n.a n.b) (share_of r.c r.e n.c n.e)
