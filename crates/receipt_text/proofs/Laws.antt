-- The lemmas that are the laws of the crate's public functions.
pub use Rattle.receipt_text.proofs.{Bytes.{all_bytes}, Digits.{none_below}, Lengths.{receipts_fit}}
pub use Rattle.receipt_text.proofs.{GrammarTexts.{receipts_are_their_texts}, ReadAgain.{receipt_again}}
pub use Rattle.receipt_text.proofs.{ShownApart.{displays_differ_by_their_fields}, TariffLines.{differ_in_tariff}}
pub use Rattle.receipt_text.proofs.Unique.{first_word, no_beginning, one_part, one_receipt, short_texts}
