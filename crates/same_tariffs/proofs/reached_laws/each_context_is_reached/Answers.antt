use Rattle.same_tariffs.proofs.DrivesToContexts.{each-reached}
use Rattle.same_tariffs.proofs.reached_laws.each_context_is_reached.Goals as goal

pub returns : goal.returns
returns c = each-reached
