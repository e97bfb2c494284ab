-- Made by tools/make/imports: what several files of this crate bring in of its types and of crates below.
pub use Rattle.outside.specs.{Disk.{IsWithin, MayLeave, SameBut}, Faults.{HasCause}, declared.printer.Printer.{Ghosts}}
pub use Rattle.{outside.specs.Runs.{IsAtRest, LeavesOnly}, slot_store.specs.declared.pair.{Pair.{Pair}, Place.{Place}}}
