use Rattle.std.proofs.Common.{refl}
use Rattle.meter_states.proofs.trip.core_trip.Goals as goal

pub returns : goal.returns
returns c = refl
