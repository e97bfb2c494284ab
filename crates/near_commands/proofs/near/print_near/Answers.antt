use Rattle.{call_ends.proofs.Laws.{carries-made, word_is}, near_commands.specs.Near.{near_in}}
use Rattle.near_commands.proofs.near.print_near.Goals as goal

pub returns : goal.returns
returns g c =
    carries-made g.F.Files g.B.Printer (word_is near_in).makes c.args.files.now c.near_of_word.new.files
    c.args.board.now c.print_made.new.board c.args.steps.now c.print_made.new.steps c.print_made.result
    c.near_of_word.ensures (λ contents left image later h. h) c.print_made.ensures
