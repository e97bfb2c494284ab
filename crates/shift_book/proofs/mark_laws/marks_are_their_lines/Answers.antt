use Rattle.shift_book.proofs.Lines.{marks_are_their_lines}
use Rattle.shift_book.proofs.mark_laws.marks_are_their_lines.Goals as goal

pub returns : goal.returns
returns c = marks_are_their_lines
