use Rattle.std.{specs.List.{range_with_len}, proofs.Common.{◌-◌, ◌≡◌, ◌≤◌, map}}
use Rattle.tariff_compile.specs.{Common.{tree_of}, Tables.{context_of_cell, lines_at}}
use Rattle.tariff_compile.proofs.cells.all_cells.Given as goal

abbrev pub invariant-loop-first : goal.invariant-loop-first
invariant-loop-first l = record {
  within : l.first ≤ l.count;
  so_far : l.cells.items ≡ map (λ cell. lines_at (tree_of l.fn.checked)
      (context_of_cell (tree_of l.fn.checked) l.k cell))
      (range_with_len 0 l.first);
}

abbrev pub decreases-loop-first : goal.decreases-loop-first
decreases-loop-first l = l.count - l.first
