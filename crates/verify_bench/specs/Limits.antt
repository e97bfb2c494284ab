-- For proofs: how much an interval is charged at the most.
use Rattle.std.specs.Prelude.{ℕ, ◌*◌, ◌^◌}

-- an interval is charged at most 202 * 10^29 units of charge
abbrev pub most_charge : ℕ
most_charge = 202 * 10 ^ 29

-- an interval is charged at most 41 * 10^9 of the smallest units of money
abbrev pub most_money : ℕ
most_money = 41 * 10 ^ 9
