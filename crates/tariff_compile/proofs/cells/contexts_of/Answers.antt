use Rattle.std.{specs.List.{range_with_len}, proofs.lemmas.Grind.{common_steps}}
use Rattle.std.proofs.{Common.{ℕ, ◌+◌, ◌-◌, ◌≡◌, ap, arith, map}, lemmas.List.FromFn.{map-range_with_len_more}}
use Rattle.tariff_compile.specs.Cells.{bands_of, context_in}
use Rattle.tariff_compile.proofs.cells.contexts_of.Goals as goal

pub bands_of-requires : goal.bands_of-requires
bands_of-requires c = c.requires.below c.loop-cell.cell c.loop-cell-test.true

pub context_in-context-requires-clause-narrow : goal.context_in-context-requires-clause-narrow
context_in-context-requires-clause-narrow c =
    rw c.bands_of.ensures (c.requires.narrow c.loop-cell.cell c.loop-cell-test.true)

pub loop-cell-preserved : goal.loop-cell-preserved
loop-cell-preserved c =
    let first = c.args.first in
    let cell = c.loop-cell.cell in
    let context = λ (n : ℕ). context_in c.args.k c.args.cuts.now (bands_of c.args.sizes.now n) in
    let contexts = λ (n : ℕ). map context (range_with_len first n) in
    let later : cell - first + 1 ≡ cell + 1 - first = omega (arith, c.loop-cell.auto.cell) in
    let more = map-range_with_len_more context first (cell - first) cell (omega (arith, c.loop-cell.auto.cell)) in
    grind (arith, common_steps, more, ap contexts later)
