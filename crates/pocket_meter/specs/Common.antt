-- Made by tools/make/imports: what several files of this crate bring in of its types and of crates below.
pub use Rattle.{taxi_units.specs.declared.event.Event.{Event}, totals_record.specs.States.{first_state}}
pub use Rattle.{meter_model.specs.{Run.{opened, run}, Setting.{Setting}}, meter_states.specs.Setting.{IsSettingOf}}
pub use Rattle.{meter_states.specs.Lawful.{IsTimely}, meter_run.specs.Texts.{shown_texts}}
