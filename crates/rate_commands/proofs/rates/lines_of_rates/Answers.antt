use Rattle.std.proofs.Common.{◌++◌, ◌+◌, ◌≡◌, refl, rules}
use Rattle.rate_commands.proofs.RateLines.{line_more, no_more, sound_at}
use Rattle.rate_commands.proofs.rates.lines_of_rates.Goals as goal

pub loop-place-init : goal.loop-place-init
loop-place-init c = record { text = rw c.new-text.ensures.items refl }

pub rate_line-line-requires-clause-sound : goal.rate_line-line-requires-clause-sound
rate_line-line-requires-clause-sound c =
    sound_at c.args.rates.now c.loop-place.place _ c.loop-place-test.true c.requires.sound

pub loop-place-preserved : goal.loop-place-preserved
loop-place-preserved c =
    let grown : c.extend_from_slice.new.self.items ≡ c.loop-place.text.items ++ c.rate_line-line.result.items =
    search rules in
    record {
      text = line_more c.args.k c.args.rates.now c.loop-place.place c.loop-place.text.items _ _ _ _
          c.loop-place-test.true c.rate_line-line.ensures grown c.loop-place.invariant.text;
    }

pub returns : goal.returns
returns c = no_more c.args.k c.args.rates.now c.loop-place.place
    (c.loop-place.place + 1) c.loop-place.text.items _ c.loop-place-test.false c.loop-place.invariant.text
