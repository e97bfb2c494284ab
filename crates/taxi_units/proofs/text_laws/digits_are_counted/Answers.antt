use Rattle.taxi_units.proofs.{Digits.{digits_in_front}, Front.{digits_are_counted}}
use Rattle.taxi_units.proofs.text_laws.digits_are_counted.Goals as goal

pub returns : goal.returns
returns c = record { count = digits_are_counted; alone = digits_in_front }
