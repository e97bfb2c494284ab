use Rattle.meter_run.proofs.Laws as laws
use Rattle.meter_run.proofs.cut_laws.cuts_open_the_next_run.Goals as goal

pub returns : goal.returns
returns g c = λ t k d p deeds i x cut board is settled.
    laws.cuts_open_the_next_run t k g.B.Printer.tells_text d p deeds i x cut g.C.Printer board is settled
