-- Made by tools/make/imports: what several files of this crate bring in of its types and of crates below.
pub use Rattle.taxi_units.specs.{DateTest.{date_test}, Number.{number_in, padded_text}, Reading.{◌>>=◌, Gives}}
pub use Rattle.{taxi_units.specs.Digits.{IsNumberIn}, slot_bodies.specs.Codec.{read_row}}
pub use Rattle.taxi_units.specs.{Identifier.{IsIdentifierCharacter}, Test.{◌&◌, Test, at_most, each, same}}
pub use Rattle.drive_modes.specs.declared.charges.Mode.{Mode, TheVariants.{Double, Single}}
pub use Rattle.interval_clock.specs.{Calendar.{IsDateOf, day_number_of}, Offsets.{IsOffset, IsOffsetList}}
pub use Rattle.seal_record.specs.declared.params.Name.{Name, TheVariants.{Constant, Hold, Offset, Secured, Taxi}}
pub use Rattle.seal_record.specs.declared.params.{ParamFault.{ParamFault}, Params.{Params}}
pub use Rattle.seal_record.specs.declared.params.ParamFault.TheVariants.{BadValue, TooLong, Twice, Unknown}
