use Rattle.taxi_units.proofs.Figures.{figures_are_read_by_their_digits, figures_in_front_are_read_by_their_digits}
use Rattle.taxi_units.proofs.text_laws.figures_are_read_by_their_digits.Goals as goal

pub returns : goal.returns
returns c = record {
  front = figures_in_front_are_read_by_their_digits;
  whole = figures_are_read_by_their_digits;
}
