use Rattle.std.proofs.Common.{◌∙◌, None, Some, map, sym}
use Rattle.tariff_check.{specs.Common.{line_of}, proofs.FirstParts.{zones_said}}
use Rattle.tariff_check.proofs.parts.zones.Goals as goal

pub returns-in-Some : goal.returns-in-Some
returns-in-Some c =
    c.zones_in.ensures
    ∙ sym (zones_said (map line_of c.args.lines.now) (Some (line_of c.in-Some.line.now)) c.in-Some.ensures)

pub returns-in-None : goal.returns-in-None
returns-in-None c = sym (zones_said (map line_of c.args.lines.now) None c.in-None.ensures)
