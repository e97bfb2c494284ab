use Rattle.std.{specs.{List.{range_with_len}, Prelude.{find}}, proofs.Common.{ℕ, ◌+◌, ◌-◌, ◌≡◌, map}}
use Rattle.rate_commands.specs.{Common.{greatest_constant, own_values}, Fineness.{fine_above, is_fine}}
use Rattle.rate_commands.proofs.constants.fine_above.Given as goal

-- the first is among those that are left
abbrev pub invariant-loop-more : goal.invariant-loop-more
invariant-loop-more l =
    find (is_fine (own_values l.rates))
    (map (λ (n : ℕ). l.k + n) (range_with_len l.more (greatest_constant + 1 - l.k - l.more)))
    ≡ fine_above (own_values l.rates) l.k
