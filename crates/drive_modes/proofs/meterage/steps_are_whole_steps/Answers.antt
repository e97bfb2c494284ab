use Rattle.drive_modes.proofs.Steps.{quotient-ahead, quotient-behind}
use Rattle.drive_modes.proofs.meterage.steps_are_whole_steps.Goals as goal

pub returns : goal.returns
returns c = record { behind = quotient-behind; ahead = quotient-ahead }
