use Rattle.{call_ends.proofs.Laws.{carries-made}, tariff_commands.proofs.ComparedTariffs.{compares}}
use Rattle.tariff_commands.proofs.compare.print_comparison.Goals as goal

pub returns : goal.returns
returns g c =
    carries-made g.F.Files g.B.Printer (compares c.args.constant) c.args.files.now c.compare_words.new.files
    c.args.board.now c.print_made.new.board c.args.steps.now c.print_made.new.steps c.print_made.result
    c.compare_words.ensures (λ contents left image later h. h) c.print_made.ensures
