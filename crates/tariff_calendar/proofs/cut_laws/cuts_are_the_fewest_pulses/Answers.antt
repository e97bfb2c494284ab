use Rattle.tariff_calendar.proofs.Comparisons.{fewest_pulses}
use Rattle.tariff_calendar.proofs.cut_laws.cuts_are_the_fewest_pulses.Goals as goal

pub returns : goal.returns
returns c = fewest_pulses
