-- Made by tools/make/imports: what several files of this crate bring in of its types and of crates below.
pub use Rattle.taxi_units.specs.{Streams.{stream_limit}, declared.receipt.Receipt.{Receipt}}
pub use Rattle.outside.specs.{Disk.{MayLeave, SameBut}, PrintedText.{Begins}, Runs.{KeepsStore, LeavesOnly}}
pub use Rattle.outside.specs.{Faults.{HasCause, MayRise, RisesOnlyIf, Rose}, declared.printer.Printer.{Ghosts}}
pub use Rattle.slot_store.specs.{Syncs.{IsAsHeld, LeavesFromSync, ReadsOnly}, Writes.{OrWithin}}
pub use Rattle.receipt_text.specs.{Grammar.{IsReceiptText}, Part.{Part}}
pub use Rattle.receipt_reading.specs.{Printed.{Printed}, Roll.{AreOnRoll, Reads}, declared.roll.RollEnd.{RollEnd}}
pub use Rattle.log_commands.specs.declared.{ending.Ended.{Ended}, words.Call.{Call}}
pub use Rattle.log_commands.specs.declared.ending.Ended.TheVariants.{BadLog, BadWords, BoardFault, BrokenLog, Filed}
pub use Rattle.log_commands.specs.declared.ending.Ended.TheVariants.{Listed, OtherTaxi, ReadFault, Shown, TooLong}
pub use Rattle.log_commands.specs.declared.{file_roll.FileEnd.{FileEnd}, words.Call.TheVariants.{File, Rows, Show}}
