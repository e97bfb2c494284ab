use Rattle.std.proofs.Common.{◌<◌, ◌∙◌, ap, arith, subst}
use Rattle.tariff_compile.specs.{Cells.{bands_at, cell_count}, Tables.{IsCompiled, TableParts, sizes_for}}
use Rattle.tariff_compile.proofs.Compiled.{bands-below, length-cells, sizes_for-most}
use Rattle.tariff_compile.proofs.tables.Tables.lines_at.Goals as goal

pub cell_number-cell-requires-clause-below : goal.cell_number-cell-requires-clause-below
cell_number-cell-requires-clause-below c =
    rw (
      c.sizes_of-sizes.ensures ∙ ap sizes_for c.self.view_is,
      c.plain_bands_at.ensures ∙ ap (λ (p : TableParts). bands_at p.cuts c.args.x.now) c.self.view_is,
    ) (bands-below c.args.self.now c.args.x.now c.requires.range)

pub cell_number-cell-requires-clause-fits : goal.cell_number-cell-requires-clause-fits
cell_number-cell-requires-clause-fits c =
    let compiled = subst IsCompiled c.self.view_is c.self.invariant.0 in
    rw (c.sizes_of-sizes.ensures ∙ ap sizes_for c.self.view_is) (omega (arith, sizes_for-most c.args.self.now compiled))

pub offset_bounds-as_slice-cell : goal.offset_bounds-as_slice-cell
offset_bounds-as_slice-cell c =
    let compiled = subst IsCompiled c.self.view_is c.self.invariant.0 in
    let below : c.cell_number-cell.result < cell_count (sizes_for c.args.self.now) =
    rw (c.sizes_of-sizes.ensures ∙ ap sizes_for c.self.view_is) at c.cell_number-cell.ensures.below in
    omega (arith, below, sizes_for-most c.args.self.now compiled)

pub bounds-as_slice-cell : goal.bounds-as_slice-cell
bounds-as_slice-cell c =
    let compiled = subst IsCompiled c.self.view_is c.self.invariant.0 in
    let below : c.cell_number-cell.result < cell_count (sizes_for c.args.self.now) =
    rw (c.sizes_of-sizes.ensures ∙ ap sizes_for c.self.view_is) at c.cell_number-cell.ensures.below in
    rw (
      c.as_slice.ensures.value ∙ ap (λ (p : TableParts). p.cells) c.self.view_is,
      length-cells c.args.self.now compiled,
    ) below
