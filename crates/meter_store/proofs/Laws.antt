-- The lemmas that are the laws of the crate's public functions.
pub use Rattle.meter_store.proofs.Scans.{seal_is_found, totals_are_found, totals_stay_found}
