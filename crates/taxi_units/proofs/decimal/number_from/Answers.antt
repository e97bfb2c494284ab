use Rattle.std.proofs.Common.{◌+◌, ◌<◌, ◌^◌, arith, subst}
use Rattle.taxi_units.proofs.Digits.{numbers_grow_by_their_digits}
use Rattle.taxi_units.proofs.decimal.number_from.Goals as goal

pub returns-then-number-gt-LARGEST : goal.returns-then-number-gt-LARGEST
returns-then-number-gt-LARGEST c =
    let large = numbers_grow_by_their_digits (10 ^ 12 + 1) c.loop-byte.number c.args.digits.now c.loop-byte.byte-index
    c.loop-byte-test.true c.loop-byte.invariant.digits (omega (arith, c.if-number-gt-LARGEST.true)) in
    subst (λ n. 10 ^ 12 < n) c.loop-byte.invariant.value (omega (arith, large))
