use Rattle.near_commands.proofs.{NearCharges.{charges_within}, NearRates.{rates_within}}
use Rattle.near_commands.proofs.near_laws.near_charges_are_within_the_share.Goals as goal

pub returns : goal.returns
returns c = record { rates = rates_within; charges = charges_within }
