use Rattle.meter_run.proofs.Laws as laws
use Rattle.meter_run.proofs.cut_laws.receipts_are_numbered_in_order.Goals as goal

pub returns : goal.returns
returns g c = record {
  rise = laws.receipts_are_numbered_in_order-rise;
  cut = λ t k d p deeds i x cut. laws.receipts_are_numbered_in_order-cut t k g.B.Printer.tells_text d p deeds i x cut;
}
