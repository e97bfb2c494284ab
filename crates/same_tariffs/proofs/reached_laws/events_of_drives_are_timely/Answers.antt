use Rattle.same_tariffs.proofs.Timely.{drives-timely}
use Rattle.same_tariffs.proofs.reached_laws.events_of_drives_are_timely.Goals as goal

pub returns : goal.returns
returns c = drives-timely
