use Rattle.std.proofs.Common.{◌∙◌, arith, sym}
use Rattle.rate_commands.proofs.Excess.{excess_here, excess_later, excess_most}
use Rattle.rate_commands.proofs.fineness.excess.Goals as goal

pub returns-then-is_within : goal.returns-then-is_within
returns-then-is_within c =
    excess_here c.args.weights c.loop-tenths.tenths c.loop-tenths.invariant
    (sym c.is_within.ensures ∙ c.if-is_within.true)

pub loop-tenths-preserved : goal.loop-tenths-preserved
loop-tenths-preserved c =
    excess_later c.args.weights c.loop-tenths.tenths (sym c.is_within.ensures ∙ c.if-is_within.false)

pub returns : goal.returns
returns c = omega (arith, excess_most c.args.weights)
