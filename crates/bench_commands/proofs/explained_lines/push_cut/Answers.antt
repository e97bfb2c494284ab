use Rattle.std.proofs.Common.{ℕ, ◌++◌, ◌∙◌, List, ap}
use Rattle.bench_commands.proofs.ExplainedLines.{cut_by}
use Rattle.bench_commands.proofs.explained_lines.push_cut.Goals as goal

pub returns-clause-text : goal.returns-clause-text
returns-clause-text c =
    c.push_pointed.ensures.text
    ∙ ap (λ (t : List ℕ). c.args.line.now.items ++ t)
    (cut_by c.args.scale.now.decimals c.args.charge c.args.scale.now.unit c.ten_to-one.result
    c.ten_thousandths-part.result
    c.digits_of-digits.result c.requires.scale.decimals c.requires.scale.some c.ten_to-one.ensures.value
    c.ten_thousandths-part.ensures.value c.digits_of-digits.ensures.value)
