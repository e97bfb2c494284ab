use Rattle.std.{specs.Prelude.{is_err}, proofs.Common.{◌∙◌, ap}}
use Rattle.drive_commands.proofs.GenDrive.{state_found-err, state_found-ok}
use Rattle.drive_commands.proofs.generate.state_in.Goals as goal

pub returns-in-Ok-clause-has : goal.returns-in-Ok-clause-has
returns-in-Ok-clause-has g c = λ told calm durable has.
    c.latest_in.ensures
    ∙ state_found-ok (g.B.Printer.image c.args.board.now) durable c.scan.result c.in-Ok.found has
    (c.scan.ensures.exact told (λ failed. calm (c.scan.ensures.cause.rose failed))) c.in-Ok.is

pub returns-in-Err-clause-has : goal.returns-in-Err-clause-has
returns-in-Err-clause-has g c = λ told calm durable has.
    absurd (state_found-err (g.B.Printer.image c.args.board.now) durable c.scan.result has
    (c.scan.ensures.exact told (λ failed. calm (c.scan.ensures.cause.rose failed))) (ap is_err c.in-Err.is))
