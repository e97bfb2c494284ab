-- Made by tools/make/imports: what several files of this crate bring in of its types and of crates below.
pub use Rattle.taxi_units.specs.{Shown.{IsShown}, declared.receipt.Display.{Display}}
pub use Rattle.taxi_units.specs.declared.event.Event.{Event, TheVariants.{Clock, Down, Key, Pulses, Tick, Up}}
pub use Rattle.taxi_units.specs.declared.event.Operating.{Operating, TheVariants.{ForHire, Hired, Off, Stopped}}
pub use Rattle.outside.specs.{Disk.{MayLeaveAmid, SameBut}, Faults.{HasCause, MayRise, Rose}, Reading.{LeavesOthers}}
pub use Rattle.{outside.specs.PrintedText.{Begins}, slot_store.specs.declared.pair.Place.{Place}}
pub use Rattle.outside.specs.{Runs.{IsAtRest, KeepsStore, LeavesNow, LeavesOnly}, declared.printer.Printer.{Ghosts}}
pub use Rattle.{drive_text.specs.Drive.{events_in}, drive_source.specs.declared.source.Stop.{Stop}}
pub use Rattle.drive_text.specs.Ending.{BadAt, Endless, IsSplit, StreamEnd, Whole, drive_end, events_of, stream_limit}
pub use Rattle.drive_text.specs.{Runs.{interval_events, intervals_events, run_events}, declared.run.Run.{Run}}
pub use Rattle.{drive_source.specs.Source.{EndsBy, HasGiven}, totals_record.specs.declared.change.Change.{Change}}
pub use Rattle.totals_record.specs.{Ranges.{IsDurable}, Sums.{GrowsBy}, declared.entry.Entry.{Entry}}
pub use Rattle.totals_record.specs.{States.{after, entries_of, first_state}, declared.durable_state.Durable.{Durable}}
pub use Rattle.{seal_record.specs.{Ranges.{IsSeal}, declared.seal.Seal.{Seal}}, meter_model.specs.Step.{step, step_in}}
pub use Rattle.meter_store.specs.{Sealing.{HasSeal, HoldsSeal}, Stored.{HasState, HoldsState, state_number_of}}
pub use Rattle.{tariff_compile.specs.Tables.{TableParts}, meter_model.specs.Run.{actions_of, ended, opened, run}}
pub use Rattle.meter_model.specs.{Display.{shown}, Meter.{Meter, Outcome}, Setting.{Setting}, Supply.{supply_came}}
pub use Rattle.meter_model.specs.declared.act.Act.{Act, TheVariants.{Enter, Hold, Receipt, Refuse, Show}}
pub use Rattle.meter_states.specs.{Acts.{IsLawfulAct}, Cache.{CachedCore}, Fits.{Fits}, Setting.{IsSettingOf}}
pub use Rattle.meter_states.specs.{Core.{CoreData, Meets, Stands}, Equals.{intervals_of}, Lawful.{IsLawful, IsTimely}}
pub use Rattle.receipt_text.specs.{SealParts.{part_of_seal}, Texts.{display_text, refusal_text}}
pub use Rattle.meter_run.specs.declared.{fault.RunFault.{RunFault}, stored.{Known.{Known}, StoreMeter.{StoreMeter}}}
