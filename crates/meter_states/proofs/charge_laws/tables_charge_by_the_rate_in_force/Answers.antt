use Rattle.meter_states.proofs.Charges.{charge-at}
use Rattle.meter_states.proofs.charge_laws.tables_charge_by_the_rate_in_force.Goals as goal

pub returns : goal.returns
returns c = charge-at
