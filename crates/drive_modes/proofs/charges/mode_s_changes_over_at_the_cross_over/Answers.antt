use Rattle.drive_modes.proofs.Crossover.{below_exactly, distance_above, time_below}
use Rattle.drive_modes.proofs.charges.mode_s_changes_over_at_the_cross_over.Goals as goal

pub returns : goal.returns
returns c = record { exactly = below_exactly; time = time_below; distance = distance_above }
