-- The laws of the public empty functions.
pub use Rattle.tariff_compare.proofs.EachKind.{no_difference-hiring, no_difference-rate}
