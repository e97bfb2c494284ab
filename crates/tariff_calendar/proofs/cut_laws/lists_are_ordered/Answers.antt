use Rattle.tariff_calendar.proofs.{Insertions.{length-with_each}, Laws.{lists_are_ordered-hiring}}
use Rattle.tariff_calendar.proofs.Lists.{lists_ordered}
use Rattle.tariff_calendar.proofs.cut_laws.lists_are_ordered.Goals as goal

pub returns : goal.returns
returns c = record { hiring = lists_are_ordered-hiring; ordered = lists_ordered; few = length-with_each }
