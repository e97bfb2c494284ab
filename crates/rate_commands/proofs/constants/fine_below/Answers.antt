use Rattle.std.proofs.Common.{ℕ, ◌+◌, ◌-◌, ◌∙◌, ◌≡◌, arith, sym}
use Rattle.rate_commands.specs.Common.{least_constant, own_values}
use Rattle.rate_commands.{specs.Fineness.{is_fine}, proofs.Nearest.{here_made, left_made, no_more_made}}
use Rattle.rate_commands.proofs.constants.fine_below.Goals as goal

pub returns-then-is_fine : goal.returns-then-is_fine
returns-then-is_fine c =
    let k = c.args.k in
    here_made (is_fine (own_values c.args.rates.now)) (λ (n : ℕ). k - n) c.loop-less.less
    (k + 1 - least_constant - c.loop-less.less) _
    (omega arith) (sym c.is_fine.ensures ∙ c.if-is_fine.true) c.loop-less.invariant

pub loop-less-preserved : goal.loop-less-preserved
loop-less-preserved c =
    let k = c.args.k in
    left_made (is_fine (own_values c.args.rates.now)) (λ (n : ℕ). k - n) c.loop-less.less
    (k + 1 - least_constant - c.loop-less.less)
    _ _ (omega arith) (sym c.is_fine.ensures ∙ c.if-is_fine.false) c.loop-less.invariant

pub returns : goal.returns
returns c =
    let k = c.args.k in
    no_more_made (is_fine (own_values c.args.rates.now)) (λ (n : ℕ). k - n) c.loop-less.less
    (k + 1 - least_constant - c.loop-less.less) _
    (omega arith) c.loop-less.invariant
