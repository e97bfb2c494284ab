-- Rules: how far a store counts.
use Rattle.std.specs.Prelude.{ℕ, ◌*◌, ◌+◌, ◌^◌}

-- the store takes no hiring and no roaming from the number 10^15 on
abbrev pub hirings_end : ℕ
hirings_end = 10 ^ 15

-- the last number with which a trip may be held is 2 * 10^15
abbrev pub last_number : ℕ
last_number = 2 * 10 ^ 15

-- the store's number is at most one more than the last with which a trip may be held
abbrev pub number_most : ℕ
number_most = 2 * 10 ^ 15 + 1

-- roaming pulses are entered as soon as they are 1,000,000
abbrev pub roaming_most : ℕ
roaming_most = 1000000

-- a meter between two events has at most this many roaming pulses, one fewer than are entered
abbrev pub roaming_between : ℕ
roaming_between = 999999

-- a meter amid an event has at most this many roaming pulses, which is 2,000 more, those of one interval
abbrev pub roaming_amid : ℕ
roaming_amid = 1001999

-- the supplements of a trip come to at most 16 times 99 times 1,000,000 of the smallest unit of money
abbrev pub largest_supplements : ℕ
largest_supplements = 16 * 99 * 1000000
