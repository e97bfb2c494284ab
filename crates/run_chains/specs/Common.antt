-- Made by tools/make/imports: what several files of this crate bring in of its types and of crates below.
pub use Rattle.{outside.specs.Disk.{SameBut}, slot_store.specs.declared.found.{Found.{Found}, SlotFault.{SlotFault}}}
pub use Rattle.{slot_store.specs.Scan.{found_at}, memory_devices.specs.MemoryFiles.{FilesState, rest_of}}
pub use Rattle.memory_devices.specs.MemoryBoard.{BoardState, image_of, left_since_of, new_board, text_of}
pub use Rattle.{memory_devices.specs.declared.replay.Fill.{Fill}, drive_text.specs.Ending.{drive_end, events_of}}
pub use Rattle.{totals_record.specs.States.{entries_of}, seal_record.specs.declared.seal.Seal.{Seal}}
pub use Rattle.totals_record.specs.{Sums.{GrowsBy}, declared.{change.Change.{Change}, durable_state.Durable.{Durable}}}
pub use Rattle.{meter_store.specs.{Sealing.{HasSeal}, Stored.{HasState}}, meter_model.specs.declared.act.Act.{Act}}
pub use Rattle.meter_model.specs.{Setting.{Setting}, declared.act.Act.TheVariants.{Receipt}}
pub use Rattle.meter_run.specs.Deeds.{Deed, Does, Prints, after_deeds, changes_of, deeds_of, texts}
pub use Rattle.{call_ends.specs.declared.ending.Ended.{Ended}, store_commands.specs.Opening.{opening_in}}
pub use Rattle.{drive_commands.specs.{Fare.{drive_answer}, Run.{start_of}}, commands.specs.Words.{row_of}}
pub use Rattle.drive_commands.specs.Run.{IsCutOfRun, IsOfTotals, IsRun, Start, deeds_in, run_answer, setting_in}
