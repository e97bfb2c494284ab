use Rattle.std.proofs.Common.{◌≤◌, length, subst}
use Rattle.tariff_check.specs.{Common.{ChoiceKind, Tariff, tree_of}, SoundTariff.{AreChoices, choices}}
use Rattle.tariff_check.specs.Faults.{IsSound}
use Rattle.tariff_check.{specs.Kinds.{kept_of, part_of}, proofs.{ChoiceLaws.{kept_are}, FaultStages.{sound_if_none}}}
use Rattle.tariff_check.{specs.Resolved.{HasParts}, proofs.{KindLaws.{each_kind}, SoundParts.{own_few}}}
use Rattle.tariff_check.proofs.checked.Checked.parts.Goals as goal

pub returns-clause-parts : goal.returns-clause-parts
returns-clause-parts c =
    subst (λ (t : Tariff). HasParts (tree_of t).lines c.self.inside.parts) c.self.view_is c.self.invariant.2

pub returns-clause-choices : goal.returns-clause-choices
returns-clause-choices c =
    let lines = (tree_of c.args.self.now).lines in
    each_kind
    (λ (kind : ChoiceKind). AreChoices lines (kept_of kind c.self.inside.parts.choices) (choices (part_of kind) lines))
    (λ (kind : ChoiceKind). kept_are kind lines c.self.inside.parts (returns-clause-parts c))

pub returns-clause-few : goal.returns-clause-few
returns-clause-few c =
    let t = tree_of c.self.inside.tariff in
    each_kind (λ (kind : ChoiceKind). length (kept_of kind c.self.inside.parts.choices) ≤ 64)
    (λ (kind : ChoiceKind). own_few kind t (kept_of kind c.self.inside.parts.choices) c.self.invariant.3
    (kept_are kind t.lines c.self.inside.parts c.self.invariant.2))

pub returns-clause-sound : goal.returns-clause-sound
returns-clause-sound c =
    subst (λ (t : Tariff). IsSound (tree_of t)) c.self.view_is
    (sound_if_none (tree_of c.self.inside.tariff) c.self.invariant.1.sound)
