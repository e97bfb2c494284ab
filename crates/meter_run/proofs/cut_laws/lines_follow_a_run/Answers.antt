use Rattle.meter_run.proofs.Laws as laws
use Rattle.meter_run.proofs.cut_laws.lines_follow_a_run.Goals as goal

pub returns : goal.returns
returns g c = record {
  whole = laws.lines_follow_a_run-whole g.B.Printer;
  begun = laws.lines_follow_a_run-begun g.B.Printer;
}
