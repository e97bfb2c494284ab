-- The laws of this crate, as its public empty functions state them.
pub use Rattle.verify_bench.proofs.Explanations.{receipts_explained as explanations_have_the_receipts-receipts}
pub use Rattle.verify_bench.proofs.GeneratedLaws.{generated_is_good as generated_drives_mean_their_lines-good}
pub use Rattle.verify_bench.proofs.GeneratedLaws.{generated_is_short as generated_drives_mean_their_lines-short}
pub use Rattle.verify_bench.proofs.OneReading.{one_reading as texts_have_one_reading}
