use Rattle.std.proofs.Common.{◌+◌, ◌≡◌, ◌≤◌, length}
use Rattle.tariff_syntax.specs.{Parsed.{heading_read}, TextLines.{lines_of}}
use Rattle.tariff_syntax.proofs.parsing.heading.Given as goal

abbrev pub invariant-loop-line : goal.invariant-loop-line
invariant-loop-line l = record {
  room : l.number + length l.rest ≤ 1 + length l.text;
  same : heading_read 1 (lines_of l.text) ≡ heading_read l.number (lines_of l.rest);
}

abbrev pub decreases-loop-line : goal.decreases-loop-line
decreases-loop-line l = length l.rest
