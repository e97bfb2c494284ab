use Rattle.taxi_units.proofs.Numbers.{numbers_read_back, padded_numbers_read_back}
use Rattle.taxi_units.proofs.text_laws.numbers_read_back.Goals as goal

pub returns : goal.returns
returns c = record { plain = numbers_read_back; padded = padded_numbers_read_back }
