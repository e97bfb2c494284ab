use Rattle.log_commands.proofs.Beginnings.{beginning_first}
use Rattle.log_commands.proofs.filing_laws.a_beginning_is_read_as_the_roll.Goals as goal

pub returns : goal.returns
returns c taken more rest some all reads whole = beginning_first taken more rest all some whole reads
