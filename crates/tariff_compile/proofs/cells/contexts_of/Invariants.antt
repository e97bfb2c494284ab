use Rattle.std.{specs.List.{range_with_len}, proofs.Common.{◌-◌, ◌≡◌, map}}
use Rattle.tariff_compile.specs.Cells.{bands_of, context_in}
use Rattle.tariff_compile.proofs.cells.contexts_of.Given as goal

abbrev pub invariant-loop-cell : goal.invariant-loop-cell
invariant-loop-cell l = l.contexts.items
    ≡ map (λ cell. context_in l.k l.cuts (bands_of l.sizes cell)) (range_with_len l.first (l.cell - l.first))
