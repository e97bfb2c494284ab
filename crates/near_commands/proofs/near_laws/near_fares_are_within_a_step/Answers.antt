use Rattle.near_commands.proofs.NearFares.{fares_within}
use Rattle.near_commands.proofs.near_laws.near_fares_are_within_a_step.Goals as goal

pub returns : goal.returns
returns c = fares_within
