use Rattle.std.{specs.List.{list_any}, proofs.Common.{◌≡◌, drop, map}}
use Rattle.tariff_check.{specs.{Common.{line_of}, Faults.{has_default}}, proofs.FirstParts.{is_default}}
use Rattle.tariff_check.specs.Kinds.{part_of}
use Rattle.tariff_check.proofs.parts.has_default.Given as goal

abbrev pub invariant-loop-line : goal.invariant-loop-line
invariant-loop-line l =
    list_any (is_default l.kind) (map line_of (drop l.line-index l.lines))
    ≡ has_default (part_of l.kind) (map line_of l.lines)
