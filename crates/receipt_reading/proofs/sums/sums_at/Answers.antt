use Rattle.{std.proofs.Common.{refl}, receipt_text.specs.Lines.{sums_at}}
use Rattle.receipt_reading.proofs.sums.sums_at.Goals as goal

pub returns : goal.returns
unfolding sums_at
returns c =
    let a = c.in_ok-fare.ensures.value in
    let b = c.in_ok-supplements.ensures.value in
    let d = c.in_ok-rest.ensures in
    rw (a, b, d) refl
