use Rattle.meter_states.proofs.Charges.{by_numbers}
use Rattle.meter_states.proofs.charge_laws.charges_by_weights_are_by_the_rates.Goals as goal

pub returns : goal.returns
returns c = by_numbers
