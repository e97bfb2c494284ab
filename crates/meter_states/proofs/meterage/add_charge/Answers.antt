use Rattle.std.proofs.Common.{ℕ, ◌+◌, ◌-◌, ◌∙◌, ap, arith}
use Rattle.meter_states.{specs.Common.{Meterage, added}, proofs.Meterages.{added-less, sum-added}}
use Rattle.meter_states.proofs.meterage.add_charge.Goals as goal

pub returns-then-above-modulus-clause-exact : goal.returns-then-above-modulus-clause-exact
returns-then-above-modulus-clause-exact c =
    let m = c.args.meterage.now in
    ap (λ (n : ℕ). record m { cover_left = n; rest = m.rest + c.saturating_sub.result })
    c.saturating_sub-meterage.ensures
    ∙ ap (λ (n : ℕ). record m { cover_left = m.cover_left - c.args.charge; rest = m.rest + n }) c.saturating_sub.ensures
    ∙ added-less c.args.modulus c.args.charge m (omega (arith, c.saturating_sub.ensures, c.if-above-modulus.true))

pub returns-then-above-modulus-clause-sum : goal.returns-then-above-modulus-clause-sum
returns-then-above-modulus-clause-sum c = λ cover above charged is.
    returns-then-above-modulus-clause-exact c
    ∙ ap (λ (m : Meterage). added c.args.modulus m c.args.charge) is
    ∙ sum-added (record { cover = cover; above = above; modulus = c.args.modulus }) charged c.args.charge (omega arith)
