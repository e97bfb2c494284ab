use Rattle.receipt_text.proofs.Unique.{first_word}
use Rattle.receipt_text.proofs.grammar_laws.receipts_begin_with_their_word.Goals as goal

pub returns : goal.returns
returns c = first_word
