use Rattle.seal_record.proofs.PlainTexts.{plain_texts_read_back}
use Rattle.seal_record.proofs.plain_laws.plain_texts_are_read_back.Goals as goal

pub returns : goal.returns
returns c = plain_texts_read_back
