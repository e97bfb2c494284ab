use Rattle.drive_modes.proofs.Charged.{both_double, both_most, distance_least, time_least}
use Rattle.drive_modes.proofs.even_speed_laws.charges_in_mode_s_lie_between.Goals as goal

pub returns : goal.returns
returns c = record { distance = distance_least; time = time_least; most = both_most; both = both_double }
