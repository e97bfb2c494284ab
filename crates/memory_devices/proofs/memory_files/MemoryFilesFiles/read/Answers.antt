use Rattle.std.proofs.{Common.{arith}, lemmas.Grind.{common_steps}}
use Rattle.memory_devices.proofs.memory_files.MemoryFilesFiles.read.Goals as goal

pub returns-clause-taken : goal.returns-clause-taken
returns-clause-taken c = grind (arith, common_steps) steps 2000000

pub returns-clause-over : goal.returns-clause-over
returns-clause-over c = grind (arith, common_steps) steps 2000000

pub returns-clause-read : goal.returns-clause-read
returns-clause-read c = grind (arith, common_steps) steps 2000000
