-- Made by tools/make/imports: what several files of this crate bring in of its types and of crates below.
pub use Rattle.{outside.specs.declared.printer.Printer.{Ghosts}, slot_store.specs.Writes.{LeavesThroughout, WritesIn}}
pub use Rattle.slot_store.specs.{Slots.{IsSettled, ShowsEither}, declared.{found.Found.{Found}, pair.Place.{Place}}}
pub use Rattle.slot_store.specs.{Stages.{IsReady}, declared.pair.Pair.{Pair}}
pub use Rattle.totals_record.specs.{States.{first_state}, declared.durable_state.Durable.{Durable}}
pub use Rattle.seal_record.specs.declared.seal.Seal.{Seal}
