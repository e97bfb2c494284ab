use Rattle.meter_store.proofs.Scans.{seal_is_found, totals_are_found, totals_stay_found}
use Rattle.meter_store.proofs.sealing_laws.scans_find_what_a_sealing_asks_for.Goals as goal

pub returns : goal.returns
returns g c = record {
  totals = totals_are_found g.B.Printer;
  seal = seal_is_found g.B.Printer;
  totals_stay = totals_stay_found g.B.Printer;
}
