use Rattle.tariff_calendar.proofs.Counts.{count_at_most-above, count_at_most-below, count_at_most-le-length}
use Rattle.tariff_calendar.proofs.cut_laws.counts_are_places.Goals as goal

pub returns : goal.returns
returns c = record { few = count_at_most-le-length; before = count_at_most-below; after = count_at_most-above }
