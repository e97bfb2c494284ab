use Rattle.std.proofs.Common.{ℕ, ◌++◌, ◌∙◌, List, ap, arith, flat_map}
use Rattle.bench_commands.{specs.ExplainedText.{rate_text}, proofs.TextsInTurn.{line_more, lines_all}}
use Rattle.bench_commands.proofs.explained_text.push_rates.Goals as goal

pub loop-group-preserved : goal.loop-group-preserved
loop-group-preserved c =
    let line = rate_text c.args.scale.now in
    let all = c.args.text.now.items ++ flat_map line c.args.groups.now in
    let pushed = c.in_ok-push_line.ensures ∙ ap (λ (t : List ℕ). c.loop-group.text.items ++ t) c.rate_line.ensures in
    record {
      text = line_more line c.args.groups.now all c.loop-group.group-index _ c.loop-group.text.items _
          (omega (arith, c.loop-group-test.true)) c.loop-group.invariant.text pushed;
    }

pub returns : goal.returns
returns c =
    let line = rate_text c.args.scale.now in
    lines_all line c.args.groups.now (c.args.text.now.items ++ flat_map line c.args.groups.now) c.loop-group.group-index
    c.loop-group.text.items (omega (arith, c.loop-group-test.false)) c.loop-group.invariant.text
