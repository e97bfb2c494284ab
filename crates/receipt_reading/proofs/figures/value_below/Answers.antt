use Rattle.std.proofs.Common.{◌≤◌, subst}
use Rattle.{taxi_units.proofs.Laws.{numbers_grow_by_their_digits}, receipt_text.proofs.Laws.{none_below}}
use Rattle.receipt_reading.proofs.figures.value_below.Goals as goal

pub returns-then-limit-value-clause-value : goal.returns-then-limit-value-clause-value
returns-then-limit-value-clause-value c =
    let large = numbers_grow_by_their_digits c.args.limit c.loop-byte.value c.args.digits.now c.loop-byte.byte-index
    c.loop-byte-test.true c.loop-byte.invariant.digits c.if-limit-value.true in
    none_below c.args.limit c.args.start c.args.digits.now
    (subst (λ n. c.args.limit ≤ n) c.loop-byte.invariant.value large)
