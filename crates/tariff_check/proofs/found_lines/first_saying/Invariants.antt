use Rattle.std.proofs.Common.{◌≡◌, drop, map}
use Rattle.tariff_check.specs.{Common.{line_of}, FoundLines.{frame_line}}
use Rattle.tariff_check.proofs.found_lines.first_saying.Given as goal

abbrev pub invariant-loop-line : goal.invariant-loop-line
invariant-loop-line l =
    frame_line l.part (map line_of (drop l.line-index l.lines)) ≡ frame_line l.part (map line_of l.lines)
