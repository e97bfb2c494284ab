use Rattle.{std.proofs.Common.{arith, refl}, call_ends.proofs.Laws.{done_not_board, prints-by}}
use Rattle.store_commands.{specs.Sealed.{sealed_answer}, proofs.StoreTexts.{shows-barred, shows-text}}
use Rattle.store_commands.proofs.sealed_params.print_sealed.Goals as goal

-- there is no sealed store
pub returns-in-Err : goal.returns-in-Err
returns-in-Err g c = λ contents. let o = c.open_sealed.ensures in let e = c.in-Err.ensures in
    shows-barred sealed_answer (λ why. refl) contents g.B.Printer o.exact o.opens o.steps c.in-Err.is e.barred
    e.not_read e.cause e.looks

-- the seal is printed
pub returns : goal.returns
returns g c = λ contents. let o = c.open_sealed.ensures in let p = c.print_seal.ensures in
    rw c.ended_behind.ensures (shows-text sealed_answer (λ why. refl) contents g.B.Printer o.exact o.opens o.steps
    c.in-Ok.is (g.met.B.Printer.only_now c.open_sealed.new.board) refl
    (prints-by c.print_seal.result p.whole p.begun p.cause p.steps p.store done_not_board) (omega arith))
