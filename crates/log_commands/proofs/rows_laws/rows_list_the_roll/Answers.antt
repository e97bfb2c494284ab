use Rattle.log_commands.proofs.RowsEnds.{rows_all, rows_first}
use Rattle.log_commands.proofs.rows_laws.rows_list_the_roll.Goals as goal

pub returns : goal.returns
returns g c = record {
  whole = rows_all g.F.Files g.G.Printer;
  first = rows_first g.F.Files g.G.Printer;
}
