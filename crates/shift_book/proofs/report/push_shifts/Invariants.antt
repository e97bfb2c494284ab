use Rattle.std.{specs.Prelude.{vec_len}, proofs.Common.{◌*◌, ◌++◌, ◌+◌, ◌≡◌, ◌≤◌, length}}
use Rattle.shift_book.specs.Report.{shift_lines}
use Rattle.shift_book.proofs.report.push_shifts.Given as goal

abbrev pub invariant-loop-shift : goal.invariant-loop-shift
invariant-loop-shift l = record {
  counted : l.count + length l.left ≡ l.total;
  so_far : l.report.items ++ shift_lines l.decimals (l.count + 1) l.left
      ≡ l.fn.report.items ++ shift_lines l.decimals 1 l.shifts;
  most : vec_len l.report + 512 * length l.left ≤ vec_len l.fn.report + 512 * length l.shifts;
}

abbrev pub decreases-loop-shift : goal.decreases-loop-shift
decreases-loop-shift l = length l.left
