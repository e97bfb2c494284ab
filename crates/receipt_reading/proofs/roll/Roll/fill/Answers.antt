use Rattle.std.proofs.Common.{ℕ, ◌++◌, ◌+◌, ◌-◌, ◌∙◌, ◌≡◌, ◌≤◌, List, ap, arith, drop, length, length-drop, length-take}
use Rattle.{std.proofs.{Common.{take}, Math.Seq.{take-add}}, receipt_reading.proofs.Rolls.{goes_filled}}
use Rattle.receipt_reading.specs.Reading.{Place}
use Rattle.receipt_reading.proofs.roll.Roll.fill.Goals as goal

pub returns-in-Ok-clause-goes : goal.returns-in-Ok-clause-goes
returns-in-Ok-clause-goes g c = λ told.
    let kept = c.close_up-kept.result in
    let n = c.in-Ok.count in
    let window = c.read_behind.new.window in
    let old_ahead : take kept window ≡ c.args.self.now.ahead =
    c.read_behind.ensures.kept ∙ (ap (λ (k : ℕ). take k c.close_up-kept.new.window) c.close_up-kept.ensures.count
    ∙ (c.close_up-kept.ensures.front ∙ ap (λ (p : Place). p.ahead) c.self.view_is)) in
    let whole : kept + n - 0 ≡ kept + n = omega arith in
    let ahead : take (kept + n - 0) window ≡ c.args.self.now.ahead ++ take n (drop kept window) = ap (λ (k : ℕ).
    take k window) whole ∙ take-add kept n window ∙ ap (λ (t : List ℕ). t ++ take n (drop kept window)) old_ahead in
    let going = ap (λ (p : Place). p.end) c.self.view_is ∙ c.requires.going in
    let left : c.self.inside.left ≡ c.args.self.now.left = ap (λ (p : Place). p.left) c.self.view_is in
    let few : n ≤ c.min-most.result = c.in-Ok.ensures.within in
    let most = c.min-most.ensures in
    let size : length window ≡ 8192 = omega (arith, c.read_behind.auto.window, c.close_up-kept.auto.window) in
    let count : length (take n (drop kept window)) + (c.self.inside.left - n) ≡ c.args.self.now.left =
    omega (
      arith,
      length-take n (drop kept window),
      length-drop kept window,
      few,
      most,
      size,
      left,
      c.close_up-kept.ensures.count,
      c.self.invariant,
    ) in
    goes_filled c.args.self.now _ _ _ (take n (drop kept window)) c.requires.going going ahead count
    (c.in-Ok.ensures.taken told)
