use Rattle.taxi_units.proofs.Lengths.{amounts_are_short, numbers_are_short, padded_numbers_fill_the_width}
use Rattle.taxi_units.proofs.text_laws.texts_of_numbers_are_short.Goals as goal

pub returns : goal.returns
returns c = record {
  plain = numbers_are_short;
  padded = padded_numbers_fill_the_width;
  amounts = amounts_are_short;
}
