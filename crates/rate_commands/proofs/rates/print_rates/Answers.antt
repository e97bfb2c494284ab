use Rattle.{call_ends.proofs.Laws.{carries-made, word_is}, rate_commands.specs.Rates.{rates_answer}}
use Rattle.rate_commands.specs.Common.{tariff_in}
use Rattle.rate_commands.proofs.rates.print_rates.Goals as goal

pub returns : goal.returns
returns g c =
    carries-made g.F.Files g.B.Printer (word_is (λ text. rates_answer c.args.constant (tariff_in text))).makes
    c.args.files.now c.rates_of_word.new.files c.args.board.now c.print_made.new.board c.args.steps.now
    c.print_made.new.steps c.print_made.result c.rates_of_word.ensures (λ contents left image later h. h)
    c.print_made.ensures
