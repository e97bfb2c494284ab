use Rattle.std.proofs.Common.{◌∙◌, List, ap, arith, get_or, subst}
use Rattle.tariff_compile.{specs.Cells.{cell_number}, proofs.Compiled.{length-cells, sizes_for-most}}
use Rattle.tariff_compile.specs.{Common.{Bands, CellLines}, Tables.{IsCompiled, TableParts, sizes_for}}
use Rattle.tariff_compile.proofs.tables.Tables.lines_of.Goals as goal

pub cell_number-requires-clause-below : goal.cell_number-requires-clause-below
cell_number-requires-clause-below g c = rw (c.sizes_of-sizes.ensures ∙ ap sizes_for c.self.view_is) c.requires.below

pub cell_number-requires-clause-fits : goal.cell_number-requires-clause-fits
cell_number-requires-clause-fits g c =
    let compiled = subst IsCompiled c.self.view_is c.self.invariant.0 in
    rw (c.sizes_of-sizes.ensures ∙ ap sizes_for c.self.view_is) (omega (arith, sizes_for-most c.args.self.now compiled))

pub read-requires : goal.read-requires
read-requires g c =
    let compiled = subst IsCompiled c.self.view_is c.self.invariant.0 in
    let below = rw (c.sizes_of-sizes.ensures ∙ ap sizes_for c.self.view_is) at c.cell_number.ensures.below in
    rw (
      c.of.ensures ∙ (c.as_slice.ensures.value ∙ ap (λ (p : TableParts). p.cells) c.self.view_is),
      length-cells c.args.self.now compiled,
    ) below

pub returns-clause-value : goal.returns-clause-value
returns-clause-value g c = λ other.
    let sizes = c.sizes_of-sizes.ensures ∙ ap sizes_for c.self.view_is in
    let cells = c.of.ensures ∙ (c.as_slice.ensures.value ∙ ap (λ (p : TableParts). p.cells) c.self.view_is) in
    c.read.ensures.value other
    ∙ (ap (λ (list : List CellLines). get_or list c.cell_number.result other) cells
    ∙ ap (λ place. get_or c.args.self.now.cells place other)
    (c.cell_number.ensures.value ∙ ap (λ (s : Bands). cell_number s c.args.bands.now) sizes))
