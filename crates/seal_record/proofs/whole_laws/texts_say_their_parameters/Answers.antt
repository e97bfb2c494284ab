use Rattle.seal_record.proofs.WholeLaws.{texts_say_their_parameters}
use Rattle.seal_record.proofs.whole_laws.texts_say_their_parameters.Goals as goal

pub returns : goal.returns
returns c = texts_say_their_parameters
