use Rattle.std.proofs.Common.{ℕ, ◌+◌, ◌∙◌, ap}
use Rattle.taxi_units.proofs.steps.Steps.spend.Goals as goal

pub returns : goal.returns
returns g c = c.add.ensures.total ∙ ap (λ (steps : ℕ). steps + 1) c.self.view_is
