use Rattle.std.proofs.{Common.{◌*◌, ◌∙◌, ◌≡◌, refl, sym}, lemmas.Bool.{eq-eqb}}
use Rattle.tariff_compare.proofs.costs.cost_same.Goals as goal

pub returns-then-times : goal.returns-then-times
returns-then-times c =
    let distance : c.args.one.a * c.args.other.b ≡ c.args.other.a * c.args.one.b =
    sym c.times.ensures ∙ c.if-times.true ∙ c.times-2.ensures in
    rw (eq-eqb _ _ distance, c.times-then-times.ensures, c.times-then-times-2.ensures) refl
