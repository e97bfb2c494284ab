use Rattle.std.proofs.Common.{◌∙◌, ap, arith, refl, sym}
use Rattle.{outside.proofs.Laws.{keeps_print}, call_ends.proofs.Laws.{done_not_board, prints-by}}
use Rattle.store_commands.{specs.{Common.{shows}, Mark.{mark_answer}}, proofs.StoreTexts.{shows-barred, shows-text}}
use Rattle.store_commands.proofs.mark.print_mark.Goals as goal

-- there is no sealed store
pub returns-in-Err : goal.returns-in-Err
returns-in-Err g c = λ contents. let o = c.open_sealed.ensures in let e = c.in-Err.ensures in
    shows-barred (mark_answer c.args.driver) (λ why. refl) contents g.B.Printer o.exact o.opens o.steps c.in-Err.is
    e.barred e.not_read e.cause e.looks

-- the mark is printed
pub returns : goal.returns
returns g c = λ contents.
    let o = c.open_sealed.ensures in
    let p = c.print.ensures in
    let mid = c.open_sealed.new.board in
    rw c.ended_behind.ensures (shows-text (mark_answer c.args.driver) (λ why. refl) contents g.B.Printer o.exact o.opens
    o.steps c.in-Ok.is (g.met.B.Printer.only_now mid)
    (ap shows (sym (c.as_slice.ensures.value ∙ c.mark_line-line.ensures.text)))
    (prints-by {most = 1} c.print.result p.whole p.begun p.cause (omega (arith, p.step))
    (keeps_print g.B.Printer mid c.print.new.self _ p.image p.flight p.time) done_not_board)
    (omega arith))
