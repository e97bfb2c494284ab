use Rattle.std.proofs.Common.{◌∙◌, Err, ap, arith, refl, sym}
use Rattle.{tariff_compile.specs.Tables.{TableParts}, call_ends.specs.declared.ending.Ended.TheVariants.{Done}}
use Rattle.call_ends.proofs.Laws.{carries-printed, done_not_board, fails-text, makes-read, makes-unread, not_board-text}
use Rattle.call_ends.proofs.Laws.{prints-by, prints-none, read_fault-text, reads-bad, reads-ok, refuses-bad}
use Rattle.tariff_commands.{specs.Common.{ended_for, rows_text, shows}, proofs.TariffAnswers.{tabulates}}
use Rattle.tariff_commands.specs.Tables.{tables_answer}
use Rattle.tariff_commands.proofs.tables.print_tables.Goals as goal

pub returns-in-Err : goal.returns-in-Err
returns-in-Err g c = let f = c.tables_of_word.ensures in let fault = c.in-Err.fault in let k = c.args.constant in
    rw c.refused_by.ensures (carries-printed g.F.Files g.B.Printer (tabulates k).makes c.args.files.now
    c.tables_of_word.new.files c.args.board.now c.args.board.now c.args.steps.now c.args.steps.now (ended_for fault)
    (λ image. makes-unread (tabulates k) (reads-bad f.read_fault f.others f.counts ended_for c.in-Err.is
    (read_fault-text fault) refl (not_board-text fault)) refl
    (λ tells. fails-text fault (λ why e.
    refuses-bad (ap (tables_answer k) (f.refused why tells (c.in-Err.is ∙ ap Err e))))))
    (prints-none c.args.board.now c.args.steps.now (not_board-text fault))
    (λ quiet later le tells. omega (arith, le)))

pub returns : goal.returns
returns g c =
    let f = c.tables_of_word.ensures in
    let p = c.print_rows.ensures in
    let k = c.args.constant in
    let tables = c.in-Ok.tables in
    let made = c.in-Ok.ensures.found in
    rw c.ended_behind.ensures (carries-printed g.F.Files g.B.Printer (tabulates k).makes c.args.files.now
    c.tables_of_word.new.files c.args.board.now c.print_rows.new.board c.args.steps.now c.print_rows.new.steps _
    (λ image. makes-read (tabulates k) (reads-ok f.read_fault f.others f.counts c.in-Ok.ensures.ended c.in-Ok.is)
    (rows_text tables)
    Done refl refl
    (λ tells. ap (tables_answer k) (made tells).sound
    ∙ ap (λ (p : TableParts). shows (rows_text p)) (sym (made tells).value)))
    (prints-by c.print_rows.result p.whole p.begun p.cause p.steps p.store done_not_board)
    (λ quiet later le tells.
    rw (made tells).sound (grind (arith, le, (made tells).value, c.print_rows.ensures.steps))))
