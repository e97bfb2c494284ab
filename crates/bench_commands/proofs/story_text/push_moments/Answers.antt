use Rattle.std.proofs.Common.{ℕ, ◌++◌, ◌∙◌, List, ap, arith, flat_map}
use Rattle.bench_commands.{specs.StoryText.{moment_text}, proofs.TextsInTurn.{line_more, lines_all}}
use Rattle.bench_commands.proofs.story_text.push_moments.Goals as goal

pub loop-moment-preserved : goal.loop-moment-preserved
loop-moment-preserved c =
    let line = moment_text c.args.decimals in
    let all = c.args.text.now.items ++ flat_map line c.args.moments.now in
    let pushed =
    c.in_ok-push_line.ensures ∙ ap (λ (t : List ℕ). c.loop-moment.text.items ++ t) c.moment_line.ensures in
    record {
      text = line_more line c.args.moments.now all c.loop-moment.moment-index _ c.loop-moment.text.items _
          (omega (arith, c.loop-moment-test.true)) c.loop-moment.invariant.text pushed;
    }

pub returns : goal.returns
returns c =
    let line = moment_text c.args.decimals in
    lines_all line c.args.moments.now (c.args.text.now.items ++ flat_map line c.args.moments.now)
    c.loop-moment.moment-index c.loop-moment.text.items (omega (arith, c.loop-moment-test.false))
    c.loop-moment.invariant.text
