use Rattle.std.proofs.Common.{◌≡◌, take}
use Rattle.interval_clock.proofs.offsets.Offsets.from_pairs.Given as goal

-- the pairs so far
abbrev pub invariant-loop-pair : goal.invariant-loop-pair
invariant-loop-pair l = l.kept.items ≡ take l.pair-index l.pairs
