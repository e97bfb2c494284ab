use Rattle.std.proofs.Common.{◌+◌, ◌≡◌, ◌≤◌, length}
use Rattle.seal_record.specs.{Lines.{lines_of}, ParamsSoFar.{no_params_yet}, Reading.{lines_read}}
use Rattle.seal_record.proofs.reading.read_lines.Given as goal

-- the lines that were read and those that are left say what all say, and there are no more lines than bytes
abbrev pub invariant-loop-said : goal.invariant-loop-said
invariant-loop-said l = record {
  so_far : lines_read l.said l.number (lines_of l.rest) ≡ lines_read no_params_yet 1 (lines_of l.fn.text);
  few : l.number + length l.rest ≤ 65537;
}

abbrev pub decreases-loop-said : goal.decreases-loop-said
decreases-loop-said l = length l.rest
