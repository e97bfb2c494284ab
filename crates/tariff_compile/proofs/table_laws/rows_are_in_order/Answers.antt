use Rattle.tariff_compile.proofs.RowOrder.{length-all_rows, row_text-at}
use Rattle.tariff_compile.proofs.table_laws.rows_are_in_order.Goals as goal

pub returns : goal.returns
returns c = record { count = length-all_rows; row = row_text-at }
