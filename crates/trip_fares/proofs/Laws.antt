-- The laws of the public empty functions.
pub use Rattle.trip_fares.proofs.Receipts.{receipts_of_trips as receipts_are_of_their_trips}
