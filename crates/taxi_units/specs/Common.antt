-- Made by tools/make/imports: what several files of this crate bring in of its types and of crates below.
pub use Rattle.taxi_units.specs.declared.decimal.NumberFault.{NumberFault}
pub use Rattle.taxi_units.specs.declared.decimal.NumberFault.TheVariants.{BadDigit, Empty, TooBig, TooManyDecimals}
