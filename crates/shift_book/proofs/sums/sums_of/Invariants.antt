use Rattle.std.proofs.Common.{[], ◌≡◌, length}
use Rattle.shift_book.{specs.{ShareStages.{with_shifts}, Shares.{AreOrdered}}, proofs.DriverSums.{SoFar}}
use Rattle.shift_book.proofs.sums.sums_of.Given as goal

abbrev pub invariant-loop-shift : goal.invariant-loop-shift
invariant-loop-shift l = record {
  ordered : AreOrdered l.sums.entries;
  shared : SoFar l.sums.entries l.left l.shifts;
  same : with_shifts l.sums.entries l.left ≡ with_shifts [] l.shifts;
}

abbrev pub decreases-loop-shift : goal.decreases-loop-shift
decreases-loop-shift l = length l.left
