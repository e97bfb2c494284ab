use Rattle.std.proofs.{Common.{arith}, lemmas.Grind.{common_steps}}
use Rattle.tariff_compile.{specs.Common.{tree_of}, proofs.Marked.{all_marked, marks_of_choice}}
use Rattle.tariff_compile.proofs.marking.marks_of_each.Goals as goal

pub loop-choice-preserved : goal.loop-choice-preserved
loop-choice-preserved g c =
    let lines = (tree_of c.args.checked.now).lines in
    let own = c.args.choices.now in
    let n = c.loop-choice.choice-index in
    let all = c.loop-choice.all.items in
    let marks = c.marks_at-marks in
    let more = marks_of_choice lines own c.args.contexts.now n all c.choice-item.result marks.result
    c.loop-choice.invariant c.loop-choice-test.true c.choice-item.is marks.ensures in
    grind (arith, common_steps, more)

pub returns : goal.returns
returns g c =
    let lines = (tree_of c.args.checked.now).lines in
    let all = c.loop-choice.all.items in
    all_marked lines c.args.choices.now c.args.contexts.now c.loop-choice.choice-index all c.loop-choice.invariant
    c.loop-choice-test.false
