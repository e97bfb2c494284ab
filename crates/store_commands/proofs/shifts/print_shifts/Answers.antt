use Rattle.{std.proofs.Common.{arith, refl}, call_ends.proofs.Laws.{few_pieces}}
use Rattle.store_commands.specs.{Common.{end_made, text_made}, Shifts.{shifts_command}}
use Rattle.store_commands.proofs.{ShiftReports.{shifts_look}, StoreTexts.{carries-barred, carries-behind, store_known}}
use Rattle.store_commands.proofs.shifts.print_shifts.Goals as goal

-- there is no sealed store
pub returns-in-Err : goal.returns-in-Err
returns-in-Err g c = let o = c.open_sealed.ensures in let e = c.in-Err.ensures in
    carries-barred g.F.Files g.B.Printer shifts_look c.args.files.now o.exact o.opens c.in-Err.is e.barred e.not_read
    e.cause e.looks
    (λ later le. record {
      by_report = λ tells told. omega (arith, le, o.steps);
      by_book = λ tells. omega (arith, le, o.steps);
    })

-- the report is made and printed
pub returns : goal.returns
returns g c =
    let B = g.B.Printer in
    let files = c.args.files.now in
    let rest = g.F.Files.rest in
    let o = c.open_sealed.ensures in
    let r = c.report_of_word-report in
    let image = B.image c.args.board.now in
    let known = store_known B c.args.board.now o.exact c.in-Ok.is in
    let m = r.ensures.makes image in
    let p = c.print_made.ensures m.not_board in
    carries-behind g.F.Files B shifts_look files o.exact o.opens c.in-Ok.is
    (g.met.B.Printer.only_now c.open_sealed.new.board)
    known m p (λ told. told.0)
    (λ later le. record {
      by_report = λ tells told. omega (
        arith,
        le,
        o.steps,
        p.steps,
        few_pieces shifts_command (rest files) (rest r.new.files) image _ (text_made r.result) (end_made r.result)
            (m.comes (tells, known told)) (λ taken. refl),
      );
      by_book = λ tells. omega (arith, le, o.steps, p.steps, r.ensures.short tells);
    })
