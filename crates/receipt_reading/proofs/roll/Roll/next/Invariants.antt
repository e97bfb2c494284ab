use Rattle.std.proofs.Common.{[], ℕ, ◌+◌, ◌≡◌, ◌≢◌, ◌≤◌, Some, length}
use Rattle.receipt_reading.{specs.Common.{MayRise, RisesOnlyIf}, proofs.Rolls.{rounds}}
use Rattle.receipt_reading.specs.{Reading.{FailsNow, GoesOn, IsOver}, declared.roll.RollEnd.{RollEnd}}
use Rattle.receipt_reading.proofs.roll.Roll.next.Given as goal

abbrev pub invariant-loop-receipt : goal.invariant-loop-receipt
invariant-loop-receipt g l = record {
  goes : g.F.Files.tells
      → GoesOn l.fn.self l.self (g.F.Files.rest l.fn.files l.word) (g.F.Files.rest l.files l.word) [];
  stays : (end : RollEnd) → l.fn.self.end ≡ Some end → (l.self.end ≡ Some end) × (l.files ≡ l.fn.files);
  fault : RisesOnlyIf (FailsNow l.fn.self l.self) (g.F.Files.faults l.fn.files l.word)
      (g.F.Files.faults l.files l.word);
  again : (end : RollEnd) → IsOver l.fn.self end → (l.self ≡ l.fn.self) × (l.files ≡ l.fn.files);
  most : length l.self.ahead + l.self.left ≤ length l.fn.self.ahead + l.fn.self.left;
  left : l.self.left ≤ l.fn.self.left;
  others : (other : ℕ) → other ≢ l.word → g.F.Files.rest l.files other ≡ g.F.Files.rest l.fn.files other;
  counts : (other : ℕ) → MayRise (FailsNow l.fn.self l.self) (g.F.Files.faults l.fn.files other)
      (g.F.Files.faults l.files other);
}

abbrev pub decreases-loop-receipt : goal.decreases-loop-receipt
decreases-loop-receipt g l = rounds l.self.end l.self.left
