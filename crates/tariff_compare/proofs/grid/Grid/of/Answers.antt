use Rattle.{std.proofs.Common.{subst, sym}, tariff_compare.{specs.Grids.{IsGridOf}, proofs.GridIs.{is_grid}}}
use Rattle.tariff_compare.proofs.grid.Grid.of.Goals as goal

pub returns-in-Ok-clause-both : goal.returns-in-Ok-clause-both
returns-in-Ok-clause-both c =
    let one = c.args.one.now in
    let other = c.args.other.now in
    subst (IsGridOf one other) (sym c.in-Ok.ensures)
    (is_grid one other c.requires.positions c.requires.zones c.recall.ensures.compiled c.recall-2.ensures.compiled)
