use Rattle.std.proofs.Common.{ℕ, ◌<◌}
use Rattle.interval_clock.specs.Offsets.{RisesAt}
use Rattle.interval_clock.proofs.offsets.first_not_rising.Given as goal

-- each second so far is greater than the one before
abbrev pub invariant-loop-place : goal.invariant-loop-place
invariant-loop-place l = (earlier : ℕ) → earlier < l.place → RisesAt l.pairs earlier
