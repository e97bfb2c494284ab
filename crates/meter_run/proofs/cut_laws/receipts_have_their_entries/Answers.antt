use Rattle.meter_run.proofs.Laws as laws
use Rattle.meter_run.proofs.cut_laws.receipts_have_their_entries.Goals as goal

pub returns : goal.returns
returns g c = record {
  run = laws.receipts_have_their_entries-run;
  cut = λ t k d p deeds i x cut. laws.receipts_have_their_entries-cut t k g.B.Printer.tells_text d p deeds i x cut;
}
