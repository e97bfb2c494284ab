-- The laws of the public empty functions.
use Rattle.std.proofs.Common.{ℕ, ◌<◌, ◌≡◌}
use Rattle.tariff_compile.specs.Cells.{IsBefore, IsBelow, bands_of, cell_count, cell_number, places_of}
use Rattle.tariff_compile.{specs.Common.{Bands}, proofs.CellNumbers.{cell_number-order, cell_number_below}}
use Rattle.tariff_compile.proofs.CellNumbers.{bands_of-cell_number, bands_of-place, cell_number-bands_of}
pub use Rattle.tariff_compile.proofs.Compiled.{lines_in_is as tables_equal_the_tree-lines, tables_fit as tables_are_fit}
pub use Rattle.tariff_compile.proofs.EachKind.{fees_in_is as tables_equal_the_tree-fees}
pub use Rattle.tariff_compile.proofs.OwnWeights.{weights_of_rate as weights_are_those_of_their_rates-rate}

pub cells_are_numbered_in_order-number : (sizes bands : Bands) → IsBelow sizes bands
    → (cell_number sizes bands < cell_count sizes) × (bands_of sizes (cell_number sizes bands) ≡ bands)
cells_are_numbered_in_order-number sizes bands below =
    (cell_number_below sizes bands below, bands_of-cell_number sizes bands below)

pub cells_are_numbered_in_order-place : (sizes : Bands) (cell : ℕ) → cell < cell_count sizes
    → IsBelow sizes (bands_of sizes cell) × (cell_number sizes (bands_of sizes cell) ≡ cell)
cells_are_numbered_in_order-place sizes cell within =
    (bands_of-place sizes cell within, cell_number-bands_of sizes cell)

pub cells_are_numbered_in_order-order : (sizes bands later : Bands) → IsBelow sizes bands → IsBelow sizes later
    → IsBefore (places_of bands) (places_of later) → cell_number sizes bands < cell_number sizes later
cells_are_numbered_in_order-order sizes bands later below also before = cell_number-order sizes bands later below before
