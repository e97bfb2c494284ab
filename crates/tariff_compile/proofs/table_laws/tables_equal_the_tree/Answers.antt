use Rattle.tariff_check.proofs.Laws.{hirings_begin_with_first_lines-amounts}
use Rattle.tariff_compile.proofs.{Compiled.{has_weights, lines_in_is}, EachKind.{cell_names_lines, fees_in_is}}
use Rattle.tariff_compile.proofs.table_laws.tables_equal_the_tree.Goals as goal

pub returns : goal.returns
returns c = record {
  cell = cell_names_lines;
  weights = has_weights;
  amounts = hirings_begin_with_first_lines-amounts;
  lines = lines_in_is;
  fees = fees_in_is;
}
