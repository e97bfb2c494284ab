use Rattle.std.{specs.{List.{range_with_len}, Prelude.{find}}, proofs.Common.{ℕ, ◌+◌, ◌-◌, ◌≡◌, map}}
use Rattle.rate_commands.specs.{Common.{least_constant, own_values}, Fineness.{fine_below, is_fine}}
use Rattle.rate_commands.proofs.constants.fine_below.Given as goal

-- the first is among those that are left
abbrev pub invariant-loop-less : goal.invariant-loop-less
invariant-loop-less l =
    find (is_fine (own_values l.rates))
    (map (λ (n : ℕ). l.k - n) (range_with_len l.less (l.k + 1 - least_constant - l.less)))
    ≡ fine_below (own_values l.rates) l.k
