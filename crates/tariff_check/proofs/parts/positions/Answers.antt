use Rattle.std.proofs.Common.{◌∙◌, None, Some, map, sym}
use Rattle.tariff_check.{specs.Common.{line_of}, proofs.FirstParts.{positions_said}}
use Rattle.tariff_check.proofs.parts.positions.Goals as goal

pub returns-in-Some : goal.returns-in-Some
returns-in-Some c =
    c.positions_in.ensures
    ∙ sym (positions_said (map line_of c.args.lines.now) (Some (line_of c.in-Some.line.now)) c.in-Some.ensures)

pub returns-in-None : goal.returns-in-None
returns-in-None c = sym (positions_said (map line_of c.args.lines.now) None c.in-None.ensures)
