use Rattle.std.proofs.Common.{◌+◌, ◌≡◌, length}
use Rattle.shift_book.specs.{ShareStages.{Rise}, Shares.{Column, at, unsigned_in}}
use Rattle.shift_book.proofs.shift.unsigned_of.Given as goal

abbrev pub invariant-loop-mark : goal.invariant-loop-mark
invariant-loop-mark l = record {
  rise : Rise l.now l.left;
  so_far : (c : Column) → at c l.unsigned + at c (unsigned_in l.now l.left) ≡ at c (unsigned_in l.now l.marks);
}

abbrev pub decreases-loop-mark : goal.decreases-loop-mark
decreases-loop-mark l = length l.left
