use Rattle.std.proofs.Common.{◌∙◌, ap, arith, refl}
use Rattle.drive_modes.{specs.{Common.{Meterage}, Fare.{Opening, added}}, proofs.Sums.{added-saved}}
use Rattle.drive_modes.proofs.meterage.Meterage.add.Goals as goal

pub returns-clause-sum : goal.returns-clause-sum
returns-clause-sum c = λ cover above charged old.
    let opening : Opening = record { cover = cover; above = above; modulus = c.args.modulus } in
    let then = ap (λ (m : Meterage). added c.args.modulus m c.args.charge) old
    ∙ added-saved opening charged c.args.charge (omega arith) in
    cc

pub returns-clause-exact : goal.returns-clause-exact
returns-clause-exact c = rw (c.saturating_sub-self.ensures, c.saturating_sub.ensures) refl
