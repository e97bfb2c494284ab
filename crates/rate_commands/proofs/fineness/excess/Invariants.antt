use Rattle.std.proofs.Common.{◌≤◌}
use Rattle.rate_commands.specs.Fineness.{excess_of}
use Rattle.rate_commands.proofs.fineness.excess.Given as goal

-- no smaller number is enough
abbrev pub invariant-loop-tenths : goal.invariant-loop-tenths
invariant-loop-tenths l = l.tenths ≤ excess_of l.weights
