use Rattle.{std.proofs.Common.{length}, shift_book.specs.Books.{Begins}}
use Rattle.shift_book.proofs.book.read_book.Given as goal

abbrev pub invariant-loop-rest : goal.invariant-loop-rest
invariant-loop-rest l = Begins l.now l.text l.marks.items l.rest

abbrev pub decreases-loop-rest : goal.decreases-loop-rest
decreases-loop-rest l = length l.rest
