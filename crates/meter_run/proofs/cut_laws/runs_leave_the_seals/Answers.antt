use Rattle.meter_run.proofs.Laws as laws
use Rattle.meter_run.proofs.cut_laws.runs_leave_the_seals.Goals as goal

pub returns : goal.returns
returns g c = record {
  bytes = laws.runs_leave_the_seals-bytes g.B.Printer;
  left = laws.runs_leave_the_seals-left g.B.Printer;
  kept = laws.runs_leave_the_seals-kept g.B.Printer;
}
