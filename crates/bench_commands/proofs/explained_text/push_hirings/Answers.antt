use Rattle.std.proofs.Common.{◌++◌, ◌+◌, ◌∙◌, ap, arith, map}
use Rattle.verify_bench.specs.declared.explained.Explained.{Explained}
use Rattle.bench_commands.specs.{Common.{explanation_of}, ExplainedText.{hiring_text, numbered_texts}}
use Rattle.bench_commands.proofs.TextsInTurn.{numbered_all, numbered_more}
use Rattle.bench_commands.proofs.explained_text.push_hirings.Goals as goal

pub loop-hiring-preserved : goal.loop-hiring-preserved
loop-hiring-preserved c =
    let line = hiring_text c.args.scale.now in
    let list = c.args.explained.now in
    let all = c.args.text.now.items ++ numbered_texts line 1 (map explanation_of list) in
    let number = c.loop-hiring.number in
    record {
      text = numbered_more line explanation_of list all c.loop-hiring.hiring-index number c.hiring-item.result
          c.loop-hiring.text.items _ (omega (arith, c.loop-hiring-test.true)) c.loop-hiring.invariant.text
          (c.in_ok-push_hiring.ensures
          ∙ ap (λ (x : Explained). c.loop-hiring.text.items ++ line (number + 1) (explanation_of x))
          c.hiring-item.is);
      count = omega (arith, c.loop-hiring.invariant.count);
    }

pub returns : goal.returns
returns c =
    let line = hiring_text c.args.scale.now in
    let list = c.args.explained.now in
    numbered_all line explanation_of list (c.args.text.now.items ++ numbered_texts line 1 (map explanation_of list))
    c.loop-hiring.hiring-index (c.loop-hiring.number + 1) c.loop-hiring.text.items
    (omega (arith, c.loop-hiring-test.false)) c.loop-hiring.invariant.text
