use Rattle.drive_modes.proofs.EvenFares.{fare_rises}
use Rattle.drive_modes.proofs.even_fare_laws.fares_rise_with_their_charge.Goals as goal

pub returns : goal.returns
returns c = fare_rises
