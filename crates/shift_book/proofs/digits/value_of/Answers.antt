use Rattle.std.{specs.Str.Parse.{digits_value}, proofs.{Common.{◌^◌, ◌≤◌, arith, refl, subst}, lemmas.Bool.{le-ltb}}}
use Rattle.taxi_units.proofs.Laws.{numbers_grow_by_their_digits}
use Rattle.shift_book.proofs.digits.value_of.Goals as goal

pub returns-then-value-digit : goal.returns-then-value-digit
returns-then-value-digit c =
    let large = numbers_grow_by_their_digits (2 ^ 128) c.loop-byte.value c.args.digits.now c.loop-byte.byte-index
    c.loop-byte-test.true c.loop-byte.invariant.digits
    (omega (arith, c.if-value-digit.true)) in
    rw (le-ltb (digits_value 10 c.args.digits.now) (2 ^ 128)
    (subst (λ n. 2 ^ 128 ≤ n) c.loop-byte.invariant.value large)) refl
