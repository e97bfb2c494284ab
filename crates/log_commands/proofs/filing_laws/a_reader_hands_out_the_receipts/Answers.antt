use Rattle.log_commands.proofs.WholeRolls.{receipts_of_all, receipts_taken}
use Rattle.log_commands.proofs.filing_laws.a_reader_hands_out_the_receipts.Goals as goal

pub returns : goal.returns
returns c = record { taken = receipts_taken; all = receipts_of_all }
