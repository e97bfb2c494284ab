-- Made by tools/make/imports: what several files of this crate bring in of its types and of crates below.
pub use Rattle.taxi_units.specs.{Identifier.{is_identifier_character}, Reading.{◌>>=◌, Gives, GivesSame}}
pub use Rattle.taxi_units.specs.{Line.{line_size}, Number.{digits_at_front}}
pub use Rattle.totals_record.specs.declared.durable_state.Durable.{Durable}
pub use Rattle.shift_book.specs.declared.book.BookFault.{BookFault, TheVariants.{BadLine, TooLong}}
pub use Rattle.shift_book.specs.declared.{numbers.Numbers.{Numbers}, shift.Shift.{Shift}}
