use Rattle.taxi_units.proofs.Numbers.{numbers_are_read_by_their_digits, wide_numbers_are_read_by_their_digits}
use Rattle.taxi_units.proofs.text_laws.numbers_are_read_by_their_digits.Goals as goal

pub returns : goal.returns
returns c = record {
  plain = numbers_are_read_by_their_digits;
  wide = wide_numbers_are_read_by_their_digits;
}
