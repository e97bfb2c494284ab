use Rattle.std.{specs.{List.{list_all}, Prelude.{nat_le}}, proofs.Common.{ℕ, ◌≡◌, drop}}
use Rattle.rate_commands.specs.{Common.{own_values}, Fineness.{is_fine}}
use Rattle.rate_commands.proofs.constants.is_fine.Given as goal

-- what is left decides
abbrev pub invariant-loop-rate : goal.invariant-loop-rate
invariant-loop-rate l = is_fine (own_values (drop l.rate-index l.rates)) l.k ≡ is_fine (own_values l.rates) l.k
