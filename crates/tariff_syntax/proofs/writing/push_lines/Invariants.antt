use Rattle.std.proofs.Common.{◌++◌, ◌≡◌, drop, map}
use Rattle.tariff_syntax.specs.{Common.{line_of}, Printed.{lines_text}}
use Rattle.tariff_syntax.proofs.writing.push_lines.Given as goal

abbrev pub invariant-loop-line : goal.invariant-loop-line
invariant-loop-line l =
    l.text.items ++ lines_text l.decimals (map line_of (drop l.line-index l.lines))
    ≡ l.initial.text.items ++ lines_text l.decimals (map line_of l.lines)
