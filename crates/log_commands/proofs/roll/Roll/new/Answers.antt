use Rattle.{std.proofs.Common.{refl}, log_commands.proofs.Rolls.{starts}}
use Rattle.log_commands.proofs.roll.Roll.new.Goals as goal

pub returns-clause-start : goal.returns-clause-start
returns-clause-start c = λ roll. starts roll _ refl refl refl
