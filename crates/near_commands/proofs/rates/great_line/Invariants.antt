use Rattle.std.proofs.Common.{◌≡◌, drop}
use Rattle.near_commands.specs.{NearTariff.{great_line}, Nearest.{measures_at}}
use Rattle.near_commands.proofs.rates.great_line.Given as goal

-- none before is great
abbrev pub invariant-loop-rate : goal.invariant-loop-rate
invariant-loop-rate l = (great_line (drop l.rate-index l.rates) ≡ great_line l.rates) × (l.least ≡ measures_at 2)
