use Rattle.{call_ends.proofs.Laws.{carries-made, word_is}, tariff_commands.specs.Form.{form_answer, tree_in}}
use Rattle.tariff_commands.proofs.form.print_form.Goals as goal

pub returns : goal.returns
returns g c =
    carries-made g.F.Files g.B.Printer (word_is (λ text. form_answer (tree_in text))).makes c.args.files.now
    c.form_of_word.new.files c.args.board.now c.print_made.new.board c.args.steps.now c.print_made.new.steps
    c.print_made.result c.form_of_word.ensures (λ contents left image later h. h) c.print_made.ensures
