use Rattle.std.proofs.Common.{◌+◌, ◌≡◌, ◌≤◌, length}
use Rattle.tariff_syntax.specs.{TokenReading.{tokens_of}, Weight.{weight}}
use Rattle.tariff_syntax.proofs.conditions.weight.Given as goal

abbrev pub invariant-loop-token : goal.invariant-loop-token
invariant-loop-token l = record {
  within : l.count + length l.rest ≤ length l.line;
  same : weight (tokens_of l.line) ≡ l.count + weight (tokens_of l.rest);
}

abbrev pub decreases-loop-token : goal.decreases-loop-token
decreases-loop-token l = length l.rest
