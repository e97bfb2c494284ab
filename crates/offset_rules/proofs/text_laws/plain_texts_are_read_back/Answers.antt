use Rattle.offset_rules.proofs.PlainTexts.{plain_texts_are_read_back}
use Rattle.offset_rules.proofs.text_laws.plain_texts_are_read_back.Goals as goal

pub returns : goal.returns
returns c = plain_texts_are_read_back
