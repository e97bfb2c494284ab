use Rattle.receipt_text.proofs.Unique.{short_texts}
use Rattle.receipt_text.proofs.grammar_laws.receipts_are_short.Goals as goal

pub returns : goal.returns
returns c = short_texts
