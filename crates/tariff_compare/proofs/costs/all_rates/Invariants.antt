use Rattle.std.proofs.Common.{◌≡◌, take}
use Rattle.tariff_check.specs.SoundTariff.{own_values}
use Rattle.tariff_compare.proofs.costs.all_rates.Given as goal

abbrev pub invariant-loop-rate : goal.invariant-loop-rate
invariant-loop-rate l = l.all.items ≡ own_values (take l.rate-index l.rates)
