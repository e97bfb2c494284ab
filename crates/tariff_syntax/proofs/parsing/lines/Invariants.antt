use Rattle.std.proofs.Common.{◌+◌, ◌≡◌, ◌≤◌, length, map}
use Rattle.tariff_syntax.specs.{Common.{line_of}, Parsed.{before, entries_read}, TextLines.{lines_of}}
use Rattle.tariff_syntax.proofs.parsing.lines.Given as goal

abbrev pub invariant-loop-line : goal.invariant-loop-line
invariant-loop-line l = record {
  room : l.number + length l.rest ≤ l.fn.first + length l.text;
  same : before (map line_of l.lines) (entries_read l.decimals l.number (lines_of l.rest))
      ≡ entries_read l.decimals l.fn.first (lines_of l.text);
}

abbrev pub decreases-loop-line : goal.decreases-loop-line
decreases-loop-line l = length l.rest
