use Rattle.std.proofs.Common.{◌≡◌, drop}
use Rattle.near_commands.specs.NearTariff.{fit, numbers_of}
use Rattle.near_commands.proofs.rates.fit.Given as goal

-- what is left decides
abbrev pub invariant-loop-rate : goal.invariant-loop-rate
invariant-loop-rate l =
    fit l.measures (numbers_of (drop l.rate-index l.rates)) ≡ fit l.measures (numbers_of l.rates)
