use Rattle.receipt_text.proofs.Unique.{no_beginning, one_part, one_receipt}
use Rattle.receipt_text.proofs.grammar_laws.texts_are_one_receipt.Goals as goal

pub returns : goal.returns
returns c = record { receipt = one_receipt; part = one_part; beginning = no_beginning }
