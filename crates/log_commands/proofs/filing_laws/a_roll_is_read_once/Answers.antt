use Rattle.log_commands.proofs.RollLaws.{read_once}
use Rattle.log_commands.proofs.filing_laws.a_roll_is_read_once.Goals as goal

pub returns : goal.returns
returns c = read_once
