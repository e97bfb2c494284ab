use Rattle.std.proofs.Common.{ℕ, ◌<◌}
use Rattle.interval_clock.specs.Offsets.{IsInRangeAt}
use Rattle.interval_clock.proofs.offsets.first_out_of_range.Given as goal

-- each place so far is in range
abbrev pub invariant-loop-place : goal.invariant-loop-place
invariant-loop-place l = (earlier : ℕ) → earlier < l.place → IsInRangeAt l.pairs earlier
