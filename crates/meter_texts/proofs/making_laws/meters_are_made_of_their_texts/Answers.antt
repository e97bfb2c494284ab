use Rattle.meter_texts.proofs.MadeOf.{made_by}
use Rattle.meter_texts.proofs.making_laws.meters_are_made_of_their_texts.Goals as goal

pub returns : goal.returns
returns c = made_by
