use Rattle.std.proofs.Common.{◌++◌, ◌≡◌, drop, map}
use Rattle.tariff_commands.specs.{Common.{Syntax}, Faults.{refusal_lines}}
use Rattle.tariff_commands.proofs.faults.syntax_lines.Given as goal

abbrev pub invariant-loop-number : goal.invariant-loop-number
invariant-loop-number l =
    l.lines.items ++ refusal_lines (map Syntax (drop l.number-index l.numbers)) ≡ refusal_lines (map Syntax l.numbers)
