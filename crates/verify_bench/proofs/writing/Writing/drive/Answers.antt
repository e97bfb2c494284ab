use Rattle.std.{specs.Prelude.{replicate}, proofs.Common.{[], ◌*◌, ◌++◌, ◌+◌, ◌∷◌, ◌≡◌, arith, sym}}
use Rattle.verify_bench.specs.{AddedText.{place_of}, Generated.{Place, in_turn, leg, value}}
use Rattle.verify_bench.proofs.Adds.{adds_drawn, adds_more, adds_none, adds_within, replicate-snoc}
use Rattle.verify_bench.proofs.writing.Writing.drive.Goals as goal

pub loop-leg-init : goal.loop-leg-init
loop-leg-init c = adds_none c.draw-count.new.self

pub loop-leg-preserved : goal.loop-leg-preserved
loop-leg-preserved c =
    let n = c.loop-leg.leg in
    let begun = c.draw-count.new.self in
    let one_more = adds_more begun c.loop-leg.self c.put_leg.new.self (23 * n) (1049 * n) (2099 * n) 23 1049 2099
    (replicate n leg) leg c.loop-leg.invariant c.put_leg.ensures in
    let within = adds_within begun c.put_leg.new.self (23 * n + 23) (1049 * n + 1049) (2099 * n + 2099) (23 * (n + 1))
    (1049 * (n + 1)) (2099 * (n + 1)) (in_turn (replicate n leg ++ leg ∷ []) (place_of begun)) (omega arith)
    (omega arith) (omega arith) one_more in
    rw (sym (replicate-snoc n leg)) at within

pub returns : goal.returns
returns c =
    let count = 1 + c.draw-count.result in
    let begun = c.draw-count.new.self in
    let few = c.draw-count.ensures.below in
    let all : c.loop-leg.leg ≡ count = omega arith in
    let legs = rw all at c.loop-leg.invariant in
    let within = adds_within begun c.loop-leg.self (23 * count) (1049 * count) (2099 * count) 115 5245 10495
    (in_turn (replicate count leg) (place_of begun)) (omega arith) (omega arith) (omega arith) legs in
    adds_drawn c.args.self.now begun c.loop-leg.self 115 5245 10495
    (λ (place : Place). in_turn (replicate (1 + value 5 place) leg) place)
    c.draw-count.ensures.state (rw c.draw-count.ensures.value at within)
