-- Made by tools/make/imports: what several files of this crate bring in of its types and of crates below.
pub use Rattle.taxi_units.specs.{Line.{line_size}, Reading.{◌>>=◌}, declared.receipt.Kind.{Kind}}
pub use Rattle.taxi_units.specs.{Number.{money_text, padded_text}, declared.receipt.{Receipt.{Receipt}, Stamp.{Stamp}}}
pub use Rattle.taxi_units.specs.{Shown.{IsReceipt, IsShown, IsStamp}, declared.event.Operating.TheVariants.{ForHire}}
pub use Rattle.taxi_units.specs.declared.receipt.{Display.{Display}, Kind.TheVariants.{Aborted, Closed, Expired, Roam}}
pub use Rattle.interval_clock.specs.declared.day_numbers.CalendarDate.{CalendarDate}
pub use Rattle.seal_record.specs.Ranges.{IsDay, IsSeal}
