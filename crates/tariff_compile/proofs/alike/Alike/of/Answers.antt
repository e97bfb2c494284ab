use Rattle.std.proofs.{Common.{arith, refl}, lemmas.Option.{slice_get_read, slice_get_within}}
use Rattle.tariff_compile.proofs.SameInContexts.{agree_more}
use Rattle.tariff_compile.proofs.alike.Alike.of.Goals as goal

pub loop-place-preserved : goal.loop-place-preserved
loop-place-preserved c =
    let xs = c.args.contexts.now in
    let first_at = slice_get_read xs _ 0 c.index-contexts-0.result refl
    (omega (arith, c.loop-place-test.true)) c.index-contexts-0.is in
    let x_at = slice_get_read xs _ c.loop-place.place c.index-contexts-place.result refl c.loop-place-test.true
    c.index-contexts-place.is in
    agree_more c.loop-place.alike c.and_in-alike.result xs c.loop-place.place c.index-contexts-0.result
    c.index-contexts-place.result c.loop-place.invariant first_at x_at
    c.and_in-alike.ensures.added c.and_in-alike.ensures.kept

pub returns : goal.returns
returns c = λ first first_at place x at.
    c.loop-place.invariant.each first first_at place x at
    (omega (arith, slice_get_within c.args.contexts.now place x at, c.loop-place-test.false))
