-- Made by tools/make/imports: what several files of this crate bring in of its types and of crates below.
pub use Rattle.{taxi_units.specs.{Number.{money_text}, declared.event.Event.{Event}}, call_ends.specs.Course.{Command}}
pub use Rattle.drive_text.specs.Ending.{BadAt, Endless, IsGoing, StreamEnd, Whole, drive_end, events_of}
pub use Rattle.drive_text.specs.{Ranges.{IsRunInRange}, Runs.{run_events}, declared.run.Run.{Run}}
pub use Rattle.{drive_source.specs.declared.source.Stop.{Stop}, seal_record.specs.declared.seal.Seal.{Seal}}
pub use Rattle.{totals_record.specs.declared.durable_state.Durable.{Durable}, tariff_tree.specs.Tree.{Tree, tree_of}}
pub use Rattle.{meter_model.specs.Setting.{Setting, setting_by}, verify_bench.specs.TripExplanations.{explanation_of}}
pub use Rattle.{verify_bench.specs.{Readings.{readings_in}, Story.{story_of}}, call_ends.specs.LastLine.{refused_as}}
pub use Rattle.verify_bench.specs.declared.reading.{Reading.{Reading}, ReadingsFault.{ReadingsFault}}
pub use Rattle.call_ends.specs.{Answer.{Answer}, Reads.{FailsOr, ReadsWord}, Stream.{Drive}}
pub use Rattle.call_ends.specs.{Carried.{Carries}, Making.{Makes, end_made, text_made}, declared.ending.Ended.{Ended}}
pub use Rattle.store_commands.specs.Opening.{opening_in, store_of}
