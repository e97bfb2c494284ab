use Rattle.std.proofs.Common.{ℕ, ◌∙◌, ◌≡◌, List, subst}
use Rattle.{outside.specs.{Disk.{MayLeaveAmid}, Runs.{LeavesOnly}}, call_ends.specs.LastLine.{line_of}}
use Rattle.outside.proofs.Laws.{begins_not, keeps_none, keeps_print, leaves_none, leaves_print}
use Rattle.call_ends.specs.Common.{Ghosts}
use Rattle.call_ends.proofs.ending.finish.Goals as goal

-- a cut leaves a beginning of a line if it leaves one of the text that is the line
leaves_line : {D L : Type 0} {N : ℕ} (B : Ghosts D N L) (old new : D) (text line : List ℕ) → text ≡ line
    → LeavesOnly B old new (MayLeaveAmid (B.image old) (B.in_flight old) (B.printed old) text)
    → LeavesOnly B old new (MayLeaveAmid (B.image old) (B.in_flight old) (B.printed old) line)
leaves_line B old new text line is =
    subst (λ (t : List ℕ). LeavesOnly B old new (MayLeaveAmid (B.image old) (B.in_flight old) (B.printed old) t)) is

pub returns-in-Ok-clause-leaves : goal.returns-in-Ok-clause-leaves
returns-in-Ok-clause-leaves g c =
    let B = g.B.Printer in
    let old = c.args.board.now in
    leaves_line B old c.print.new.self c.as_slice.result.now _ (c.as_slice.ensures.value ∙ c.last_line-line.ensures)
    (leaves_print B old c.print.new.self c.as_slice.result.now c.print.ensures.image c.print.ensures.flight
    c.print.ensures.time (g.met.B.Printer.only_now old))

pub returns-in-Err-clause-leaves : goal.returns-in-Err-clause-leaves
returns-in-Err-clause-leaves g c =
    let B = g.B.Printer in
    let old = c.args.board.now in
    leaves_line B old c.print.new.self c.as_slice.result.now _ (c.as_slice.ensures.value ∙ c.last_line-line.ensures)
    (leaves_print B old c.print.new.self c.as_slice.result.now c.print.ensures.image c.print.ensures.flight
    c.print.ensures.time (g.met.B.Printer.only_now old))

pub returns-then-is_empty-clause-leaves : goal.returns-then-is_empty-clause-leaves
returns-then-is_empty-clause-leaves g c =
    let B = g.B.Printer in
    let old = c.args.board.now in
    leaves_none B (MayLeaveAmid (B.image old) (B.in_flight old) (B.printed old) (line_of c.args.ended)) old
    (λ i x was. let h = g.met.B.Printer.only_now old i x was in record {
      bytes = h.bytes;
      small = h.small;
      text = begins_not (B.printed old) x (line_of c.args.ended) h.text;
    })

-- ---- the store

pub returns-then-is_empty-clause-store : goal.returns-then-is_empty-clause-store
returns-then-is_empty-clause-store g c = keeps_none g.B.Printer c.args.board.now

pub returns-in-Ok-clause-store : goal.returns-in-Ok-clause-store
returns-in-Ok-clause-store g c =
    keeps_print g.B.Printer c.args.board.now c.print.new.self c.as_slice.result.now c.print.ensures.image
    c.print.ensures.flight c.print.ensures.time

pub returns-in-Err-clause-store : goal.returns-in-Err-clause-store
returns-in-Err-clause-store g c =
    keeps_print g.B.Printer c.args.board.now c.print.new.self c.as_slice.result.now c.print.ensures.image
    c.print.ensures.flight c.print.ensures.time
