use Rattle.taxi_units.proofs.Spelled.{amounts_are_written_by_their_digits}
use Rattle.taxi_units.proofs.text_laws.amounts_are_written_by_their_digits.Goals as goal

pub returns : goal.returns
returns c = amounts_are_written_by_their_digits
