use Rattle.meter_run.proofs.Laws as laws
use Rattle.meter_run.proofs.cut_laws.the_number_tells_the_commits.Goals as goal

pub returns : goal.returns
returns g c = record {
  beginning =
      λ t k d p deeds i x cut. laws.the_number_tells_the_commits-beginning t k g.B.Printer.tells_text d p deeds i x cut;
  number = λ t k d p deeds i x cut. cut.follows.number;
  totals = λ t k d p deeds i x cut. cut.follows.totals;
  held = λ t k d p deeds i x cut. cut.follows.held;
}
