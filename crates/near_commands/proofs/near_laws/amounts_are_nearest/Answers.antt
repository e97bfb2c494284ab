use Rattle.near_commands.proofs.Shares.{nearest_is}
use Rattle.near_commands.proofs.near_laws.amounts_are_nearest.Goals as goal

pub returns : goal.returns
returns c = nearest_is
