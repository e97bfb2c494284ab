use Rattle.std.{specs.List.{list_any}, proofs.Common.{◌≡◌, drop}}
use Rattle.near_commands.specs.NearTariff.{is_lost, numbers_of}
use Rattle.near_commands.proofs.rates.some_is_lost.Given as goal

-- what is left decides
abbrev pub invariant-loop-rate : goal.invariant-loop-rate
invariant-loop-rate l =
    list_any (is_lost l.measures) (numbers_of (drop l.rate-index l.rates))
    ≡ list_any (is_lost l.measures) (numbers_of l.rates)
