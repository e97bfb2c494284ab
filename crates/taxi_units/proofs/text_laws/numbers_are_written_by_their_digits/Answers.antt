use Rattle.taxi_units.proofs.Spelled.{numbers_are_written_by_their_digits, padded_numbers_are_written_by_their_digits}
use Rattle.taxi_units.proofs.text_laws.numbers_are_written_by_their_digits.Goals as goal

pub returns : goal.returns
returns c = record {
  plain = numbers_are_written_by_their_digits;
  padded = padded_numbers_are_written_by_their_digits;
}
