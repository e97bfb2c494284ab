use Rattle.{std.proofs.Common.{arith}, tariff_check.proofs.MeasureLaws.{no_smaller, rate_some}}
use Rattle.tariff_check.proofs.measure.measure.Goals as goal

pub with_both-requires-clause-distance : goal.with_both-requires-clause-distance
with_both-requires-clause-distance c =
    (rate_some c.args.lines.now c.loop-line.line-index c.line-item.result c.in-Rate.rate c.requires
    (omega arith) c.line-item.is c.in-Rate.is).0

pub with_both-requires-clause-time : goal.with_both-requires-clause-time
with_both-requires-clause-time c =
    (rate_some c.args.lines.now c.loop-line.line-index c.line-item.result c.in-Rate.rate c.requires
    (omega arith) c.line-item.is c.in-Rate.is).1

pub returns-in_err-common : goal.returns-in_err-common
returns-in_err-common c =
    let grown = no_smaller c.args.lines.now c.loop-line.line-index c.line-item.result c.in-Rate.rate c.loop-line.common
    _ c.requires (omega arith) c.line-item.is c.in-Rate.is c.loop-line.invariant.some c.loop-line.invariant.same in
    rw c.from_residual.ensures (omega (arith, c.in_err-common.ensures))
