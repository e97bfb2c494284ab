use Rattle.std.proofs.Common.{◌∙◌, ap, subst, sym}
use Rattle.tariff_check.{specs.Amounts.{IsFitInitial}, proofs.Laws.{hirings_begin_with_first_lines-fit}}
use Rattle.tariff_compile.specs.{Cells.{bands_at}, Common.{at_hiring}, Tables.{TableParts, fees_named, parts_of}}
use Rattle.tariff_compile.proofs.Compiled.{bands-below, in_range-hiring, lines-found_at, nothing_at_hiring}
use Rattle.tariff_compile.proofs.EachKind.{fees_of_lines, initial-below}
use Rattle.tariff_compile.proofs.tables.Tables.initial_at.Goals as goal

pub bands_at_hiring-bands-requires-clause-distance : goal.bands_at_hiring-bands-requires-clause-distance
bands_at_hiring-bands-requires-clause-distance g c = (nothing_at_hiring (parts_of c.self.inside) c.self.invariant.0).0

pub bands_at_hiring-bands-requires-clause-time : goal.bands_at_hiring-bands-requires-clause-time
bands_at_hiring-bands-requires-clause-time g c = (nothing_at_hiring (parts_of c.self.inside) c.self.invariant.0).1

pub lines_of-lines-requires : goal.lines_of-lines-requires
lines_of-lines-requires g c =
    let x = at_hiring c.args.x.now in
    record {
      below = rw (c.bands_at_hiring-bands.ensures.value ∙ ap (λ (p : TableParts). bands_at p.cuts x) c.self.view_is)
          (bands-below c.args.self.now x (in_range-hiring c.args.self.now c.args.x.now c.requires.range));
    }

pub fees_of-requires : goal.fees_of-requires
fees_of-requires g c =
    let tables = c.args.self.now in
    let x = at_hiring c.args.x.now in
    let t = c.lines_of-lines.ensures.compiled.0 in
    let is = c.lines_of-lines.ensures.compiled.1 in
    let bands = c.bands_at_hiring-bands.ensures.value ∙ ap (λ (p : TableParts). bands_at p.cuts x) c.self.view_is in
    let lines = lines-found_at t tables x c.bands_at_hiring-bands.result c.lines_of-lines.result is
    (in_range-hiring tables c.args.x.now c.requires.range) bands c.lines_of-lines.ensures.value in
    rw lines (initial-below t tables x is)

pub returns-clause-tree : goal.returns-clause-tree
returns-clause-tree g c = λ t is.
    let tables = c.args.self.now in
    let x = at_hiring c.args.x.now in
    let bands = c.bands_at_hiring-bands.ensures.value ∙ ap (λ (p : TableParts). bands_at p.cuts x) c.self.view_is in
    let lines = lines-found_at t tables x c.bands_at_hiring-bands.result c.lines_of-lines.result is
    (in_range-hiring tables c.args.x.now c.requires.range) bands c.lines_of-lines.ensures.value in
    c.fees_of.ensures.value ∙ (ap (fees_named tables) lines ∙ fees_of_lines t tables x is)

pub returns-clause-fit : goal.returns-clause-fit
returns-clause-fit g c =
    let compiled = c.lines_of-lines.ensures.compiled in
    subst IsFitInitial (sym (returns-clause-tree g c compiled.0 compiled.1))
    (hirings_begin_with_first_lines-fit compiled.0 c.args.x.now compiled.1.writable compiled.1.sound)
