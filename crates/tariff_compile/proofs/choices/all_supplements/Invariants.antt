use Rattle.std.{specs.List.{range_with_len}, proofs.Common.{◌+◌, ◌≡◌, map}}
use Rattle.tariff_compile.specs.Common.{supplement_of, tree_of}
use Rattle.tariff_compile.proofs.choices.all_supplements.Given as goal

abbrev pub invariant-loop-place : goal.invariant-loop-place
invariant-loop-place l =
    l.all.items ≡ map (λ place. supplement_of (tree_of l.checked).lines (place + 1)) (range_with_len 0 l.place)
