use Rattle.taxi_units.proofs.Digits.{numbers_grow_by_their_digits}
use Rattle.taxi_units.proofs.text_laws.numbers_grow_by_their_digits.Goals as goal

pub returns : goal.returns
returns c = numbers_grow_by_their_digits
