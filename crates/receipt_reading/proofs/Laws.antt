-- The lemmas that are the laws of the crate's public functions.
pub use Rattle.receipt_reading.proofs.Beginnings.{beginning_first, reads_agree, reads_longer}
pub use Rattle.receipt_reading.proofs.RollLaws.{one_printed, read_first}
pub use Rattle.receipt_reading.proofs.WholeRolls.{receipts_of_all, receipts_so_far, receipts_taken}
