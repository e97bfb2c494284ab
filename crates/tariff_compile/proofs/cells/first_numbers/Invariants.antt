use Rattle.std.proofs.Common.{◌≡◌, map, take}
use Rattle.tariff_compile.specs.Common.{own_conditions, place_number, place_of, tree_of}
use Rattle.tariff_compile.proofs.cells.first_numbers.Given as goal

abbrev pub invariant-loop-place : goal.invariant-loop-place
invariant-loop-place g l =
    l.numbers.items
    ≡ map (λ x. place_number (place_of x (own_conditions (tree_of l.checked).lines l.choices)))
    (take l.place l.contexts)
