use Rattle.{std.proofs.Common.{map}, tariff_check.{specs.Common.{line_of}, proofs.FirstParts.{default_is}}}
use Rattle.tariff_check.proofs.parts.has_default.Goals as goal

pub loop-line-init : goal.loop-line-init
loop-line-init c = default_is c.args.kind (map line_of c.args.lines.now)
