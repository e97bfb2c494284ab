use Rattle.std.proofs.Common.{◌∙◌, ap, sym}
use Rattle.tariff_compare.{specs.{CountedLine.{is_at}, Kinds.{is_asked, place_in}}, proofs.Asked.{also, lines_by_is}}
use Rattle.tariff_compare.proofs.asking.counts.Goals as goal

pub returns-then-is_asked : goal.returns-then-is_asked
returns-then-is_asked c =
    let lines = c.lines_at.ensures.value ∙ lines_by_is c.args.tables.now c.args.m.now c.args.x.now c.requires.context in
    also (is_asked c.args.kind c.args.m.now) _ _ (sym c.is_asked.ensures ∙ c.if-is_asked.true)
    (c.is_at.ensures ∙ ap (is_at c.args.place) (c.place_in.ensures ∙ ap (place_in c.args.kind) lines))
