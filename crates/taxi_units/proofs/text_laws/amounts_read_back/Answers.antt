use Rattle.taxi_units.proofs.Amounts.{amounts_read_back}
use Rattle.taxi_units.proofs.text_laws.amounts_read_back.Goals as goal

pub returns : goal.returns
returns c = amounts_read_back
