-- For proofs: the numbers of a tariff, as the code has them. Cuts, Cells, Measure and Parts say what they are.
use Rattle.std.specs.Prelude.{◌≡◌, ◌≤◌, List, None, Some}
use Rattle.tariff_check.specs.{Cells.{cells_of}, Cuts.{count_of}, declared.cells.Counts.{Counts}}
use Rattle.tariff_check.specs.{Common.{Distance, Line, Minute, MonthDay, Time}, Parts.{positions_of, step_of, zones_of}}
use Rattle.tariff_check.specs.{Faults.{faults_of, first_some}, Measure.{measure_of}, declared.numbers.Numbers.{Numbers}}

-- counts are those of the cuts of lines, in each dimension, and none is above its limit
pub record HasCounts (lines : List Line) (counts : Counts) : Type 0 where
  pub month_day : (counts.month_day ≡ count_of MonthDay lines) × (counts.month_day ≤ 63)
  pub minute : (counts.minute ≡ count_of Minute lines) × (counts.minute ≤ 63)
  pub distance : (counts.distance ≡ count_of Distance lines) × (counts.distance ≤ 15)
  pub time : (counts.time ≡ count_of Time lines) × (counts.time ≤ 15)

-- numbers are those of lines that have no fault
pub record HasNumbers (lines : List Line) (n : Numbers) : Type 0 where
  pub sound : first_some (faults_of lines) ≡ None
  pub step : step_of lines ≡ Some (n.step, n.rounding)
  pub positions : n.positions ≡ positions_of lines
  pub zones : n.zones ≡ zones_of lines
  pub cells : n.cells ≡ cells_of lines
  pub measure : n.measure ≡ measure_of lines
