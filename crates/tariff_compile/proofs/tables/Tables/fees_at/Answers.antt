use Rattle.std.proofs.Common.{◌∙◌, ap}
use Rattle.tariff_compile.{specs.Tables.{TableParts}, proofs.{Compiled.{lines_in_is}, EachKind.{initial-below}}}
use Rattle.tariff_compile.proofs.tables.Tables.fees_at.Goals as goal

pub bounds-as_slice-lines : goal.bounds-as_slice-lines
bounds-as_slice-lines c =
    let tables = c.args.self.now in
    let t = c.lines_at-lines.ensures.compiled.0 in
    let is = c.lines_at-lines.ensures.compiled.1 in
    let lines = c.lines_at-lines.ensures.value ∙ lines_in_is t tables c.args.x.now is c.requires.range in
    rw (c.as_slice.ensures.value ∙ ap (λ (p : TableParts). p.initials) c.self.view_is, lines)
    (initial-below t tables c.args.x.now is)
