use Rattle.std.proofs.Common.{ℕ, ◌+◌, ◌-◌, ◌∙◌, ◌≡◌, arith, sym}
use Rattle.rate_commands.specs.Common.{greatest_constant, own_values}
use Rattle.rate_commands.{specs.Fineness.{is_fine}, proofs.Nearest.{here_made, left_made, no_more_made}}
use Rattle.rate_commands.proofs.constants.fine_above.Goals as goal

pub returns-then-is_fine : goal.returns-then-is_fine
returns-then-is_fine c =
    let k = c.args.k in
    here_made (is_fine (own_values c.args.rates.now)) (λ (n : ℕ). k + n) c.loop-more.more
    (greatest_constant + 1 - k - c.loop-more.more) _
    (omega arith) (sym c.is_fine.ensures ∙ c.if-is_fine.true) c.loop-more.invariant

pub loop-more-preserved : goal.loop-more-preserved
loop-more-preserved c =
    let k = c.args.k in
    left_made (is_fine (own_values c.args.rates.now)) (λ (n : ℕ). k + n) c.loop-more.more
    (greatest_constant + 1 - k - c.loop-more.more)
    _ _ (omega arith) (sym c.is_fine.ensures ∙ c.if-is_fine.false) c.loop-more.invariant

pub returns : goal.returns
returns c =
    let k = c.args.k in
    no_more_made (is_fine (own_values c.args.rates.now)) (λ (n : ℕ). k + n) c.loop-more.more
    (greatest_constant + 1 - k - c.loop-more.more) _
    (omega arith) c.loop-more.invariant
