use Rattle.std.proofs.Common.{◌++◌, ◌+◌, ◌≡◌, refl, rules}
use Rattle.verify_bench.proofs.CrossOverLines.{line_more, no_more, sound_at}
use Rattle.verify_bench.proofs.speeds.lines_of_rates.Goals as goal

pub loop-place-init : goal.loop-place-init
loop-place-init c = rw c.new-text.ensures.items refl

pub line_of_rate-line-requires : goal.line_of_rate-line-requires
line_of_rate-line-requires c = sound_at c.args.rates.now c.loop-place.place _ c.loop-place-test.true c.requires

pub loop-place-preserved : goal.loop-place-preserved
loop-place-preserved c =
    let grown : c.extend_from_slice.new.self.items ≡ c.loop-place.text.items ++ c.line_of_rate-line.result.items =
    search rules in
    line_more c.args.rates.now c.loop-place.place c.loop-place.text.items _ _ _ _ c.loop-place-test.true
    c.line_of_rate-line.ensures grown c.loop-place.invariant

pub returns : goal.returns
returns c = no_more c.args.rates.now c.loop-place.place
    (c.loop-place.place + 1) c.loop-place.text.items _ c.loop-place-test.false c.loop-place.invariant
