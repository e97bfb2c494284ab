use Rattle.receipt_reading.proofs.WholeRolls.{receipts_of_all, receipts_so_far, receipts_taken}
use Rattle.receipt_reading.proofs.roll_laws.a_reader_hands_out_the_receipts.Goals as goal

pub returns : goal.returns
returns c = record { so_far = receipts_so_far; taken = receipts_taken; all = receipts_of_all }
