use Rattle.std.proofs.Common.{◌++◌, ◌≡◌, map, take}
use Rattle.tariff_compile.specs.{Common.{tree_of}, Tables.{lines_at}}
use Rattle.tariff_compile.proofs.cells.push_lines.Given as goal

abbrev pub invariant-loop-place : goal.invariant-loop-place
invariant-loop-place l =
    l.cells.items ≡ l.fn.cells.items ++ map (lines_at (tree_of l.fn.checked)) (take l.place l.contexts)
