use Rattle.receipt_text.proofs.GrammarTexts.{receipts_are_their_texts}
use Rattle.receipt_text.proofs.grammar_laws.receipts_are_their_texts.Goals as goal

pub returns : goal.returns
returns c = receipts_are_their_texts
