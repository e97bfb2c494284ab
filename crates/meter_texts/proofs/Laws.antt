-- The laws that the crates above may cite.
pub use Rattle.meter_texts.proofs.MadeOf.{made_by}
