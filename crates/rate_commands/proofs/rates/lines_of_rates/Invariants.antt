use Rattle.std.proofs.Common.{◌++◌, ◌+◌, ◌≡◌, drop}
use Rattle.rate_commands.specs.{Rates.{rate_lines}, RatesSteps.{own_rates}}
use Rattle.rate_commands.proofs.rates.lines_of_rates.Given as goal

abbrev pub invariant-loop-place : goal.invariant-loop-place
invariant-loop-place l = record {
  text : l.text.items ++ rate_lines l.k (l.place + 1) (own_rates (drop l.place l.rates))
      ≡ rate_lines l.k 1 (own_rates l.rates);
}
