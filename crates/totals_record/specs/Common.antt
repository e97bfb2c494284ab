-- Made by tools/make/imports: what several files of this crate bring in of its types and of crates below.
pub use Rattle.taxi_units.specs.{Limits.{last_number}, Money.{largest_amount}, Test.{within}, Time.{last_tick}}
pub use Rattle.slot_bodies.specs.{Bodies.{body_size}, BytesAt.{byte_at}}
pub use Rattle.totals_record.specs.declared.{change.Change.{Change}, totals.{Share.{Share}, Totals.{Totals}}}
pub use Rattle.totals_record.specs.declared.{change.Change.TheVariants.{Enter, Hold}, durable_state.Durable.{Durable}}
pub use Rattle.totals_record.specs.declared.{entry.Entry.{Entry}, trip.Trip.{Trip}}
