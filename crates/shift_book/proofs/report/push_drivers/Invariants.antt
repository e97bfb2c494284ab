use Rattle.std.{specs.Prelude.{vec_len}, proofs.Common.{◌*◌, ◌++◌, ◌+◌, ◌≡◌, ◌≤◌, length}}
use Rattle.shift_book.specs.Report.{driver_lines}
use Rattle.shift_book.proofs.report.push_drivers.Given as goal

abbrev pub invariant-loop-driver : goal.invariant-loop-driver
invariant-loop-driver l = record {
  so_far : l.report.items ++ driver_lines l.decimals l.left.entries
      ≡ l.fn.report.items ++ driver_lines l.decimals l.initial.left.entries;
  most : vec_len l.report + 512 * length l.left.entries ≤ vec_len l.fn.report + 512 * length l.initial.left.entries;
}

abbrev pub decreases-loop-driver : goal.decreases-loop-driver
decreases-loop-driver l = length l.left.entries
