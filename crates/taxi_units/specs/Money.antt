-- Rules: the ranges of amounts of money.
use Rattle.std.specs.Prelude.{ℕ}

-- an initial hire fee, what it covers, a minimum fare and a fare are each at most 99,999,999 of the smallest unit of
-- money
abbrev pub largest_amount : ℕ
largest_amount = 99999999

-- a display step is at most 1,000,000 of the smallest unit of money
abbrev pub largest_display_step : ℕ
largest_display_step = 1000000
