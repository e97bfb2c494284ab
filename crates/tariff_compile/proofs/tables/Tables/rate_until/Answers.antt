use Rattle.std.proofs.{Common.{◌<◌, ◌∙◌, List, ap, get_or, length, subst, sym}, lemmas.List.Elements.{All-get_or}}
use Rattle.tariff_compile.specs.{Cells.{bands_at}, Common.{Weights}, Tables.{AreFit, TableParts}}
use Rattle.tariff_compile.proofs.Compiled.{bands-below, lines-found_at, rate-below, rate-weights, weights-fit}
use Rattle.tariff_compile.proofs.tables.Tables.rate_until.Goals as goal

pub lines_of-lines-requires : goal.lines_of-lines-requires
lines_of-lines-requires g c = record {
  below = rw (c.bands_until-further.ensures.value ∙ ap (λ (p : TableParts). bands_at p.cuts c.args.x.now)
      c.self.view_is) (bands-below c.args.self.now c.args.x.now c.requires.range);
}

pub read-weights-requires : goal.read-weights-requires
read-weights-requires g c =
    let tables = c.args.self.now in
    let t = c.lines_of-lines.ensures.compiled.0 in
    let is = c.lines_of-lines.ensures.compiled.1 in
    let bands =
    c.bands_until-further.ensures.value ∙ ap (λ (p : TableParts). bands_at p.cuts c.args.x.now) c.self.view_is in
    let lines = lines-found_at t tables c.args.x.now c.bands_until-further.result.0 c.lines_of-lines.result is
    c.requires.range bands c.lines_of-lines.ensures.value in
    rw (c.of.ensures ∙ (c.as_slice.ensures.value ∙ ap (λ (p : TableParts). p.weights) c.self.view_is), lines)
    (rate-below t tables c.args.x.now is)

pub returns-clause-tree : goal.returns-clause-tree
returns-clause-tree g c = λ t is.
    let tables = c.args.self.now in
    let bands =
    c.bands_until-further.ensures.value ∙ ap (λ (p : TableParts). bands_at p.cuts c.args.x.now) c.self.view_is in
    let lines = lines-found_at t tables c.args.x.now c.bands_until-further.result.0 c.lines_of-lines.result is
    c.requires.range bands c.lines_of-lines.ensures.value in
    c.read-weights.ensures.value c.read-weights.result
    ∙ (ap (λ (list : List Weights). get_or list c.lines_of-lines.result.rate c.read-weights.result)
    (c.of.ensures ∙ (c.as_slice.ensures.value ∙ ap (λ (p : TableParts). p.weights) c.self.view_is))
    ∙ rw lines (rate-weights t tables c.args.x.now c.read-weights.result is))

pub returns-clause-near : goal.returns-clause-near
returns-clause-near g c = λ t y is y_in near.
    let tables = c.args.self.now in
    let bands = c.bands_until-further.ensures.near y near ∙ ap (λ (p : TableParts). bands_at p.cuts y) c.self.view_is in
    let lines = lines-found_at t tables y c.bands_until-further.result.0 c.lines_of-lines.result is y_in bands
    c.lines_of-lines.ensures.value in
    c.read-weights.ensures.value c.read-weights.result
    ∙ (ap (λ (list : List Weights). get_or list c.lines_of-lines.result.rate c.read-weights.result)
    (c.of.ensures ∙ (c.as_slice.ensures.value ∙ ap (λ (p : TableParts). p.weights) c.self.view_is))
    ∙ rw lines (rate-weights t tables y c.read-weights.result is))

pub returns-clause-fit : goal.returns-clause-fit
returns-clause-fit g c =
    let tables = c.args.self.now in
    let compiled = c.lines_of-lines.ensures.compiled in
    let bands =
    c.bands_until-further.ensures.value ∙ ap (λ (p : TableParts). bands_at p.cuts c.args.x.now) c.self.view_is in
    let lines = lines-found_at compiled.0 tables c.args.x.now c.bands_until-further.result.0 c.lines_of-lines.result
    compiled.1 c.requires.range bands c.lines_of-lines.ensures.value in
    let there : c.lines_of-lines.result.rate < length tables.weights =
    rw lines (rate-below compiled.0 tables c.args.x.now compiled.1) in
    let read = c.read-weights.ensures.value c.read-weights.result
    ∙ ap (λ (list : List Weights). get_or list c.lines_of-lines.result.rate c.read-weights.result)
    (c.of.ensures ∙ (c.as_slice.ensures.value ∙ ap (λ (p : TableParts). p.weights) c.self.view_is)) in
    subst (AreFit tables.measure) (sym read) (All-get_or (AreFit tables.measure) tables.weights
    c.lines_of-lines.result.rate c.read-weights.result there (weights-fit tables compiled))
