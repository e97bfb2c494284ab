use Rattle.{std.proofs.Common.{ℕ, List, length, subst}, call_ends.proofs.Making.{prints-by, prints-none}}
use Rattle.call_ends.specs.{Making.{Prints, end_printed}, Pieces.{pieces_of}}
use Rattle.call_ends.proofs.made.print_made.Goals as goal

pub returns : goal.returns
returns g c = rw (c.in-Ok.is, c.ended_behind.ensures) (λ not_board.
    let end = c.in-Ok.made.ended in
    subst (λ (x : List ℕ). Prints g.B.Printer x (pieces_of (length x)) end c.args.board.now c.print_text.new.board
    c.args.steps.now c.print_text.new.steps (end_printed c.print_text.result end)) c.as_slice.ensures.value
    (prints-by c.print_text.result c.print_text.ensures.whole c.print_text.ensures.begun c.print_text.ensures.cause
    c.print_text.ensures.steps c.print_text.ensures.store not_board))

pub returns-in-Err : goal.returns-in-Err
returns-in-Err g c = rw c.in-Err.is (prints-none c.args.board.now c.args.steps.now)
