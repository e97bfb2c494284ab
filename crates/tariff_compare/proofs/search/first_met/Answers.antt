use Rattle.std.proofs.Common.{◌∙◌, ap}
use Rattle.tariff_compare.specs.{Grids.{GridLists}, Searches.{in_grid}, Sides.{is_met_by}}
use Rattle.tariff_compare.proofs.search.first_met.Goals as goal

pub returns-clause-value : goal.returns-clause-value
returns-clause-value c = c.in_grid.ensures.value
    ∙ ap (λ (g : GridLists). in_grid (is_met_by c.args.one.now c.args.other.now c.args.question) g) c.requires.grid
