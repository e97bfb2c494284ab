use Rattle.tariff_check.proofs.Laws.{lines_that_hold_are_there-initial, lines_that_hold_are_there-rate}
use Rattle.tariff_check.proofs.Laws.{lines_that_hold_are_there-there}
use Rattle.tariff_check.proofs.soundness_laws.lines_that_hold_are_there.Goals as goal

pub returns : goal.returns
returns c = record {
  rate = lines_that_hold_are_there-rate;
  initial = lines_that_hold_are_there-initial;
  there = lines_that_hold_are_there-there;
}
