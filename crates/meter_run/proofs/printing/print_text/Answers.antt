use Rattle.outside.proofs.Laws.{keeps_print, leaves_print}
use Rattle.meter_run.proofs.printing.print_text.Goals as goal

pub returns-clause-printed : goal.returns-clause-printed
returns-clause-printed g c =
    let a = c.args.board.now in
    let b = c.print.new.self in
    let print = c.print.ensures in
    record {
      whole = print.whole;
      begun = print.begun;
      cause = print.cause;
      store = keeps_print g.B.Printer a b c.args.text.now print.image print.flight print.time;
      leaves =
          leaves_print g.B.Printer a b c.args.text.now print.image print.flight print.time (g.met.B.Printer.only_now a);
    }
