use Rattle.{std.proofs.Common.{arith}, tariff_check.{specs.Measure.{lcm_of}, proofs.MeasureLaws.{lcm_grows, lcm_some}}}
use Rattle.tariff_check.proofs.measure.with_both.Goals as goal

pub returns-in_err-with_one : goal.returns-in_err-with_one
returns-in_err-with_one c =
    let first = lcm_some c.args.common c.args.rate.now.b c.requires.common c.requires.distance in
    let grown = lcm_grows (lcm_of c.args.common c.args.rate.now.b) c.args.rate.now.e first c.requires.time in
    rw c.from_residual.ensures (omega (arith, c.in_err-with_one.ensures))
