use Rattle.std.{specs.Int.{from_be_bytes, w64}, proofs.Common.{ℕ, ◌+◌, ◌-◌, ◌∙◌, ◌≡◌, ap, arith, drop, take}}
use Rattle.slot_bodies.proofs.body_bytes.eight_at.Goals as goal

pub returns : goal.returns
returns c =
    let eight : c.args.at + 8 - c.args.at ≡ 8 = omega arith in
    c.from_be_bytes.ensures
    ∙ ap (from_be_bytes w64)
    (c.copy_from_slice.ensures.after ∙ ap (λ (n : ℕ). take n (drop c.args.at c.args.bytes.now)) eight)
