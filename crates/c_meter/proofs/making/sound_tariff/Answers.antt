use Rattle.{std.proofs.Common.{subst, sym}, tariff_tree.specs.declared.tariff.Tariff.{Tariff}}
use Rattle.c_meter.specs.Common.{IsSound, Reads, tree_of}
use Rattle.c_meter.proofs.making.sound_tariff.Goals as goal

pub returns-in-Ok-check-clause-read : goal.returns-in-Ok-check-clause-read
returns-in-Ok-check-clause-read c =
    let same = sym c.in-Ok-check.ensures.sound.0 in (
      subst (λ (t : Tariff). Reads c.args.text.now (tree_of t)) same c.in-Ok.ensures.answer.1,
      subst (λ (t : Tariff). IsSound (tree_of t)) same c.in-Ok-check.ensures.sound.1,
    )
