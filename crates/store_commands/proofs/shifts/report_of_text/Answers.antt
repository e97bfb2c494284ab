use Rattle.std.proofs.Common.{◌∙◌, ap, inr, refl, sym}
use Rattle.store_commands.{specs.{Common.{shows}, Shifts.{reported}}, proofs.ShiftReports.{made_no_book}}
use Rattle.store_commands.proofs.shifts.report_of_text.Goals as goal

pub returns-in-Err-clause-made : goal.returns-in-Err-clause-made
returns-in-Err-clause-made c = rw c.refused_book.ensures (made_no_book c.args.store.now.1.decimals c.args.store.now.0
    c.args.text.now c.in-Err.fault (λ not. c.read_book.ensures.refused c.in-Err.fault c.in-Err.is not))

pub returns-in-Ok-shifts-clause-made : goal.returns-in-Ok-shifts-clause-made
returns-in-Ok-shifts-clause-made c =
    let same = rw c.as_slice.ensures.value at c.in-Ok-shifts.ensures.text in
    inr (ap (reported c.args.store.now.1.decimals c.args.store.now.0) c.in-Ok.ensures.marks ∙ ap shows (sym same), refl)
