use Rattle.std.{specs.Prelude.{◌&&◌, slice_get}, proofs.Common.{◌∙◌, ◌≡◌, Bool, ap, refl, sym}}
use Rattle.verify_bench.specs.PassingStages.{does_place_pass}
use Rattle.verify_bench.proofs.{EachPasses.{no_place, one_more}, passing.do_all_pass.Goals.{else-here, then-here}}
use Rattle.verify_bench.proofs.passing.do_all_pass.Goals as goal

pub loop-place-init : goal.loop-place-init
loop-place-init c = no_place c.args.step c.args.expected.now c.args.readings.now

pub loop-place-preserved : goal.loop-place-preserved
loop-place-preserved c =
    let place = c.loop-place.place in
    let before = c.loop-place.pass in
    let here : c.does_place_pass-here.result
    ≡ does_place_pass c.args.step (slice_get c.args.expected.now place) (slice_get c.args.readings.now place) =
    rw (c.at.ensures, c.at-in-loop-place.ensures) at c.does_place_pass-here.ensures in
    let both : c.if-here.pass ≡ (c.does_place_pass-here.result && before) = elim c.if-here.branch [
      | then-here w ↦ w.pass-is ∙ ap (λ (b : Bool). b && before) (sym w.if-here.true)
      | else-here w ↦ w.pass-is ∙ rw w.if-here.false refl
    ] in
    one_more c.args.step c.args.expected.now c.args.readings.now place c.does_place_pass-here.result before
    c.if-here.pass here c.loop-place.invariant both
