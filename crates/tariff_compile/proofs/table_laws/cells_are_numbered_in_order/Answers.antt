use Rattle.std.proofs.Common.{◌∙◌}
use Rattle.tariff_compile.proofs.Compiled.{cell_count-cells_of, length-all_cells}
use Rattle.tariff_compile.proofs.Laws.{cells_are_numbered_in_order-number, cells_are_numbered_in_order-order}
use Rattle.tariff_compile.proofs.Laws.{cells_are_numbered_in_order-place}
use Rattle.tariff_compile.proofs.table_laws.cells_are_numbered_in_order.Goals as goal

pub returns : goal.returns
returns c = record {
  count = λ t k. length-all_cells t k ∙ cell_count-cells_of t k;
  number = cells_are_numbered_in_order-number;
  place = cells_are_numbered_in_order-place;
  order = cells_are_numbered_in_order-order;
}
