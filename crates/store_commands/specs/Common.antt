-- Made by tools/make/imports: what several files of this crate bring in of its types and of crates below.
pub use Rattle.{taxi_units.specs.Line.{line_size}, outside.specs.Runs.{IsAtRest, KeepsStore, LeavesOnly, MayHold}}
pub use Rattle.{outside.specs.Faults.{Rose}, slot_store.specs.declared.found.Found.{Found, TheVariants.{Blank, Latest}}}
pub use Rattle.outside.specs.{PrintedText.{Begins}, Reading.{LeavesOthers}, declared.printer.Printer.{Ghosts}}
pub use Rattle.slot_store.specs.{Scan.{IsAsFound, found_at}, declared.pair.Place.{Place}}
pub use Rattle.slot_store.specs.{Syncs.{IsAsHeld, LeavesFromSync, ReadsOnly}, declared.found.SlotFault.{SlotFault}}
pub use Rattle.offset_rules.specs.{Rule.{Rule}, declared.fault.RuleFault.{RuleFault}}
pub use Rattle.totals_record.specs.{Ranges.{IsDurable}, declared.durable_state.Durable.{Durable}}
pub use Rattle.seal_record.specs.{Limits.{last_seal_number}, declared.{params.Params.{Params}, seal.Seal.{Seal}}}
pub use Rattle.seal_record.specs.{PlainText.{comment_line, ended_text}, declared.params.ParamFault.{ParamFault}}
pub use Rattle.{seal_record.specs.Ranges.{IsSeal}, tariff_tree.specs.Tree.{Tree, tree_of}}
pub use Rattle.meter_store.specs.Sealing.{Sealing, found_number, next_number, old_seal}
pub use Rattle.{shift_book.specs.{BookReading.{book_read}, MarkOrder.{numbers_in}}, call_ends.specs.Reads.{ReadsWord}}
pub use Rattle.call_ends.specs.{Answer.{Answer, shows}, Making.{Makes, PrintsOut, end_made, text_made}}
pub use Rattle.call_ends.specs.{Carried.{Carries, no_files}, LastLine.{line_of, refused_as, sealed_line, status_of}}
pub use Rattle.call_ends.specs.Course.{Answered, Command, store_command}
pub use Rattle.call_ends.specs.{Ending.{EndsByCourse, LeavesStoreUnwritten, ended_for}, Tariffs.{IsOfLines, tariff_in}}
pub use Rattle.call_ends.specs.declared.ending.Ended.{Ended, TheVariants.{BadParams, BadTariff, BoardFault, NoMemory}}
pub use Rattle.call_ends.specs.declared.{ending.Ended.TheVariants.{OtherDecimals, ReadFault}, tariff.Refusal.{Refusal}}
pub use Rattle.store_commands.specs.declared.{offsets.RulesFault.{RulesFault}, opening.StoreFault.{StoreFault}}
pub use Rattle.store_commands.specs.declared.{opening.Opening.{Opening}, seal.Base.{Base}}
