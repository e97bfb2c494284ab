use Rattle.std.proofs.Common.{◌≡◌, drop, map}
use Rattle.tariff_check.specs.{Common.{line_of}, Parts.{has_holidays}}
use Rattle.tariff_check.proofs.parts.has_holidays.Given as goal

abbrev pub invariant-loop-line : goal.invariant-loop-line
invariant-loop-line l = has_holidays (map line_of (drop l.line-index l.lines)) ≡ has_holidays (map line_of l.lines)
