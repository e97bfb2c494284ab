use Rattle.taxi_units.proofs.Form.{decimals_are_read_by_their_form}
use Rattle.taxi_units.proofs.text_laws.decimals_are_read_by_their_form.Goals as goal

pub returns : goal.returns
returns c = decimals_are_read_by_their_form
