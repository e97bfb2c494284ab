use Rattle.tariff_check.{specs.Common.{tree_of}, proofs.SoundParts.{step_range}}
use Rattle.tariff_check.proofs.checked.Checked.step.Goals as goal

pub returns-clause-range : goal.returns-clause-range
returns-clause-range c =
    step_range (tree_of c.self.inside.tariff) c.self.inside.numbers c.self.invariant.3 c.self.invariant.1
