use Rattle.{std.proofs.Common.{length}, drive_text.{specs.Part.{reading_of}, proofs.ReaderPieces.{Feeds}}}
use Rattle.drive_text.proofs.reader.Reader.feed.Given as goal

abbrev pub invariant-loop-rest : goal.invariant-loop-rest
invariant-loop-rest l = Feeds l.fn.self (reading_of l.self-inside.state) l.piece l.rest l.fn.out.items l.out.items

abbrev pub decreases-loop-rest : goal.decreases-loop-rest
decreases-loop-rest l = length l.rest
