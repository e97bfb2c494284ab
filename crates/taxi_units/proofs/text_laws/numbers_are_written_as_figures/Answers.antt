use Rattle.taxi_units.proofs.Figures.{numbers_are_written_as_figures, padded_numbers_are_written_as_figures}
use Rattle.taxi_units.proofs.text_laws.numbers_are_written_as_figures.Goals as goal

pub returns : goal.returns
returns c = record {
  plain = numbers_are_written_as_figures;
  padded = padded_numbers_are_written_as_figures;
}
