use Rattle.std.proofs.Common.{◌∙◌, refl, sym}
use Rattle.rate_commands.proofs.Excess.{excess_free, excess_tested}
use Rattle.rate_commands.proofs.fineness.is_within.Goals as goal

pub returns-then-pulse-eq0 : goal.returns-then-pulse-eq0
returns-then-pulse-eq0 c = sym (excess_free c.args.weights c.args.tenths (c.if-pulse-eq0.true))

pub returns : goal.returns
returns c = c.is_product_at_most.ensures ∙ excess_tested c.args.weights c.args.tenths _ _ refl refl
