use Rattle.drive_modes.proofs.Sums.{saved-any, saved-sum, shown-sum}
use Rattle.drive_modes.proofs.meterage.fares_add_up.Goals as goal

pub returns : goal.returns
returns c = record { sum = saved-sum; shown = shown-sum; any_state = saved-any }
