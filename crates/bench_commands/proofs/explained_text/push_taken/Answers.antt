use Rattle.std.proofs.Common.{ℕ, ◌++◌, ◌∙◌, List, ap, arith, flat_map}
use Rattle.bench_commands.{specs.ExplainedText.{taken_text}, proofs.TextsInTurn.{line_more, lines_all}}
use Rattle.bench_commands.proofs.explained_text.push_taken.Goals as goal

pub loop-supplement-preserved : goal.loop-supplement-preserved
loop-supplement-preserved c =
    let line = taken_text c.args.decimals in
    let all = c.args.text.now.items ++ flat_map line c.args.taken.now in
    let pushed =
    c.in_ok-push_line.ensures ∙ ap (λ (t : List ℕ). c.loop-supplement.text.items ++ t) c.taken_line.ensures in
    record {
      text = line_more line c.args.taken.now all c.loop-supplement.supplement-index _ c.loop-supplement.text.items _
          (omega (arith, c.loop-supplement-test.true)) c.loop-supplement.invariant.text pushed;
    }

pub returns : goal.returns
returns c =
    let line = taken_text c.args.decimals in
    lines_all line c.args.taken.now
    (c.args.text.now.items ++ flat_map line c.args.taken.now) c.loop-supplement.supplement-index
    c.loop-supplement.text.items (omega (arith, c.loop-supplement-test.false)) c.loop-supplement.invariant.text
