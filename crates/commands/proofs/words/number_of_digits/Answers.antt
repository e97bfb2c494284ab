use Rattle.std.{specs.Prelude.{None, nat_lt}, proofs.Common.{ℕ, ◌^◌, ◌≡◌, ◌≤◌, arith, false, refl, subst}}
use Rattle.{std.proofs.lemmas.Bool.{le-ltb}, taxi_units.proofs.Laws.{numbers_grow_by_their_digits}}
use Rattle.commands.specs.Words.{fitting}
use Rattle.commands.proofs.words.number_of_digits.Goals as goal

-- a number that 64 bits don't hold
too_large : (n : ℕ) → 2 ^ 64 ≤ n → None ≡ fitting n
too_large n large = let not : nat_lt n (2 ^ 64) ≡ false = le-ltb _ _ large in rw not refl

pub returns-then-next : goal.returns-then-next
returns-then-next c =
    too_large _ (subst (λ (n : ℕ). 2 ^ 64 ≤ n) c.loop-byte.invariant.value
    (numbers_grow_by_their_digits (2 ^ 64) c.loop-byte.number c.args.digits.now c.loop-byte.byte-index
    c.loop-byte-test.true c.loop-byte.invariant.digits (omega (arith, c.if-next.true))))
