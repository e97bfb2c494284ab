use Rattle.{std.proofs.Common.{ℕ, List}, log_commands.specs.{LogList.{EndsWith}, LogRow.{AreEntries, IsBound, IsRow}}}
use Rattle.log_commands.specs.Record.{Record}
use Rattle.log_commands.proofs.row.is_row.Given as goal

-- the slots so far are in a row, and those of a list have numbers that are below this one further back
abbrev pub invariant-loop-back : goal.invariant-loop-back
invariant-loop-back l = record {
  row : (image : List ℕ) → AreEntries image l.entries → IsRow image l.last l.back l.newer;
  bound : (image : List ℕ) (records : List Record) → AreEntries image l.entries → EndsWith image l.last records
      → IsBound records l.back l.newer;
}
