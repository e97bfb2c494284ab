-- Made by tools/make/imports: what several files of this crate bring in of its types and of crates below.
pub use Rattle.{taxi_units.specs.Number.{digits_at_front}, outside.specs.declared.printer.Printer.{Ghosts}}
pub use Rattle.{outside.specs.Runs.{IsAtRest, KeepsStore}, call_ends.specs.declared.ending.Ended.{Ended}}
pub use Rattle.call_ends.specs.{Call.{IsCall}, Course.{Command}, Unwritten.{WritesNothing}}
