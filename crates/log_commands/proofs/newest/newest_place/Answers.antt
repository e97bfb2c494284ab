use Rattle.std.proofs.Common.{ℕ, ◌<◌, ◌≡◌, None, arith, get_or, subst}
use Rattle.log_commands.{specs.LogRow.{IsAtMost}, proofs.NewestPlace.{newest_is}}
use Rattle.log_commands.proofs.newest.newest_place.Goals as goal

pub returns : goal.returns
returns c image last entries stands =
    let all : c.loop-slot.slot ≡ 256 = omega (arith, c.loop-slot.auto.slot-end, c.loop-slot-test.false) in
    newest_is image c.args.entries.now last c.loop-slot.newest stands.0 entries stands.1
    (subst (λ (n : ℕ). (slot : ℕ) → slot < n → IsAtMost c.loop-slot.newest (get_or c.args.entries.now slot None)) all
    c.loop-slot.invariant.most) c.loop-slot.invariant.one
