use Rattle.{std.proofs.Common.{arith, inl, refl}, log_commands.proofs.CallEnds.{reaches_refused}}
use Rattle.log_commands.{specs.Endings.{status_of}, proofs.LastLines.{search_kept}}
use Rattle.log_commands.proofs.top.carry_out.Goals as goal

pub returns-in-Some-Rows-clause-looks : goal.returns-in-Some-Rows-clause-looks
returns-in-Some-Rows-clause-looks g c = λ writes.
    search_kept g.G.Printer c.args.log.now c.list_rows.new.log (status_of c.list_rows.result)
    (g.met.G.Printer.only_now c.args.log.now) c.list_rows.ensures.keeps

pub returns-in-None-clause-comes : goal.returns-in-None-clause-comes
returns-in-None-clause-comes g c = λ known.
    reaches_refused g.F.Files g.G.Printer c.args.call c.args.files.now c.args.log.now c.args.steps.now c.in-None.is

pub returns-in-None-clause-has : goal.returns-in-None-clause-has
returns-in-None-clause-has g c = rw c.in-None.is (inl refl)

pub returns-in-None-clause-steps : goal.returns-in-None-clause-steps
returns-in-None-clause-steps g c = rw c.in-None.is (omega arith)
