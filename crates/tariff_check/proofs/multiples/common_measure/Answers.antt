use Rattle.std.proofs.Common.{ℕ, ◌*◌, ◌/◌, ap}
use Rattle.tariff_check.proofs.LeastMultiples.{divisor_positive, gcd_same, lcm_positive}
use Rattle.tariff_check.proofs.multiples.common_measure.Goals as goal

pub nonzero_div-result : goal.nonzero_div-result
nonzero_div-result c =
    divisor_positive c.args.a c.args.b c.greatest_divisor.result c.requires.first c.greatest_divisor.ensures

pub returns-clause-value : goal.returns-clause-value
returns-clause-value c = ap (λ (g : ℕ). c.args.a / g * c.args.b)
    (gcd_same c.args.a c.args.b c.greatest_divisor.result c.greatest_divisor.ensures)

pub returns-clause-positive : goal.returns-clause-positive
returns-clause-positive c = lcm_positive c.args.a c.args.b c.greatest_divisor.result c.requires.first c.requires.second
    c.greatest_divisor.ensures
