-- Made by tools/make/imports: what several files of this crate bring in of its types and of crates below.
pub use Rattle.{taxi_units.specs.Time.{first_second}, outside.specs.{Disk.{SameBut}, declared.printer.Printer.{Ghosts}}}
pub use Rattle.{outside.specs.{Faults.{Rose}, PrintedText.{Begins}}, slot_store.specs.Syncs.{LeavesFromSync}}
pub use Rattle.{drive_modes.specs.declared.charges.Mode.TheVariants.{Single}, meter_store.specs.Stored.{HasState}}
pub use Rattle.drive_text.specs.{Drive.{events_in}, Ending.{BadAt, Endless, StreamEnd, Whole, drive_end}}
pub use Rattle.{totals_record.specs.declared.durable_state.Durable.{Durable}, tariff_tree.specs.Tree.{Tree}}
pub use Rattle.{seal_record.specs.declared.seal.Seal.{Seal}, meter_states.specs.Fits.{Fits, fits_test}}
pub use Rattle.{tariff_compile.specs.Tables.{IsTablesOf, TableParts, tables_of}, meter_model.specs.Setting.{Setting}}
pub use Rattle.{meter_states.specs.Setting.{IsSettingOf}, meter_run.specs.declared.fault.RunFault.{RunFault}}
pub use Rattle.meter_run.specs.{Deeds.{Deed, Prints, after_deeds, changes_of, texts}, Drives.{IsBoundedByDrive}}
pub use Rattle.meter_run.specs.{InTurn.{CommitsInTurn}, Points.{IsCutOfDeeds}, Runs.{OpensWith}}
pub use Rattle.{verify_bench.specs.Generated.{generated}, call_ends.specs.declared.tariff.Refusal.{Refusal}}
pub use Rattle.call_ends.specs.{Answer.{Answer}, Course.{Answered, BoardFailed, Command, ReadFailed, line_in}}
pub use Rattle.call_ends.specs.{Carried.{Carries}, LastLine.{line_of, status_of}, Tariffs.{bad_tariff, tariff_in}}
pub use Rattle.call_ends.specs.{Stream.{Drive}, declared.ending.Ended.{Ended}}
pub use Rattle.store_commands.specs.{Opening.{IsSealedIn, opening_in, store_of}, SealedTariff.{sealed_tariff}}
