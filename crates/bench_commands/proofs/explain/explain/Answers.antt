use Rattle.{call_ends.proofs.Laws.{carries-made}, bench_commands.proofs.DriveTextAnswers.{makes_text}}
use Rattle.bench_commands.specs.Explain.{explanation_text}
use Rattle.bench_commands.proofs.explain.explain.Goals as goal

pub returns : goal.returns
returns g c =
    carries-made g.F.Files g.B.Printer (makes_text explanation_text) c.args.files.now c.explanation.new.files
    c.args.board.now c.print_made.new.board c.args.steps.now c.print_made.new.steps c.print_made.result
    c.explanation.ensures (λ contents left image later h. h) c.print_made.ensures
