use Rattle.{std.proofs.Common.{subst}, tariff_check.{specs.Faults.{IsSound}, proofs.FaultStages.{sound_if_none}}}
use Rattle.tariff_check.specs.Common.{Tariff, tree_of}
use Rattle.tariff_check.proofs.checked.Checked.tariff.Goals as goal

pub returns-clause-sound : goal.returns-clause-sound
returns-clause-sound c = subst (λ (t : Tariff). IsSound (tree_of t)) c.self.view_is
    (sound_if_none (tree_of c.self.inside.tariff) c.self.invariant.1.sound)
