use Rattle.{call_ends.proofs.Laws.{carries-made, word_is}, tariff_commands.specs.Faults.{faults_in}}
use Rattle.tariff_commands.proofs.faults.print_faults.Goals as goal

pub returns : goal.returns
returns g c =
    carries-made g.F.Files g.B.Printer (word_is faults_in).makes c.args.files.now c.found_in_word.new.files
    c.args.board.now c.print_made.new.board c.args.steps.now c.print_made.new.steps c.print_made.result
    c.found_in_word.ensures (λ contents left image later h. h) c.print_made.ensures
