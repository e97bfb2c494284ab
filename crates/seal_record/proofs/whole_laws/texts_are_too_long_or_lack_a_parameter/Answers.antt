use Rattle.seal_record.proofs.WholeFaults.{texts_lack_a_parameter, texts_too_long}
use Rattle.seal_record.proofs.whole_laws.texts_are_too_long_or_lack_a_parameter.Goals as goal

pub returns : goal.returns
returns c = record { too_long = texts_too_long; missing = texts_lack_a_parameter }
