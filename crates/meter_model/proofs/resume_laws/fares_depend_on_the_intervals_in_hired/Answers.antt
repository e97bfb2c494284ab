use Rattle.meter_model.proofs.Fares.{fare-by}
use Rattle.meter_model.proofs.resume_laws.fares_depend_on_the_intervals_in_hired.Goals as goal

pub returns : goal.returns
returns c = fare-by
