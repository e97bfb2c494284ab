use Rattle.std.proofs.Common.{arith}
use Rattle.drive_modes.proofs.gate.Gate.add.Goals as goal

pub returns-clause-surplus : goal.returns-clause-surplus
returns-clause-surplus c = omega arith

pub returns-clause-all : goal.returns-clause-all
returns-clause-all c = omega arith
