use Rattle.receipt_reading.proofs.{PlainFields.{fields_plain, row_cut}, RowTexts.{one_row, text_in_turn}}
use Rattle.receipt_reading.proofs.row_laws.rows_tell_their_receipts.Goals as goal

pub returns : goal.returns
returns c = record { values = text_in_turn; plain = fields_plain; cut = row_cut; one = one_row }
