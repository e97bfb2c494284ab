use Rattle.tariff_calendar.proofs.{Laws.{cuts_decide_conditions-first}, SameCell.{same_cell_holds}}
use Rattle.tariff_calendar.proofs.cut_laws.cuts_decide_conditions.Goals as goal

pub returns : goal.returns
returns c = record { condition = same_cell_holds; first = cuts_decide_conditions-first }
