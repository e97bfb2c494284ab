use Rattle.std.proofs.Common.{◌++◌, ◌≡◌, drop, map}
use Rattle.near_commands.specs.{Common.{line_of}, NearTariff.{numbered_rates}}
use Rattle.near_commands.proofs.rates.rates_of.Given as goal

-- those so far, and those of the lines that are left
abbrev pub invariant-loop-line : goal.invariant-loop-line
invariant-loop-line l = l.rates.items ++ numbered_rates (map line_of (drop l.line-index l.lines))
    ≡ numbered_rates (map line_of l.lines)
