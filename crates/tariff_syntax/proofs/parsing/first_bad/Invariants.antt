use Rattle.std.proofs.Common.{◌+◌, ◌≡◌, ◌≤◌, length}
use Rattle.tariff_syntax.specs.{Parsed.{entries_read}, Parses.{bad_in}, TextLines.{lines_of}}
use Rattle.tariff_syntax.proofs.parsing.first_bad.Given as goal

abbrev pub invariant-loop-line : goal.invariant-loop-line
invariant-loop-line l = record {
  room : l.number + length l.rest ≤ l.fn.first + length l.text;
  same : bad_in (entries_read l.decimals l.number (lines_of l.rest))
      ≡ bad_in (entries_read l.decimals l.fn.first (lines_of l.text));
}

abbrev pub decreases-loop-line : goal.decreases-loop-line
decreases-loop-line l = length l.rest
