use Rattle.std.proofs.Common.{arith}
use Rattle.log_commands.proofs.appending.next_at.Goals as goal

pub returns-clause-is : goal.returns-clause-is
returns-clause-is c = omega arith
