-- Made by tools/make/imports: what several files of this crate bring in of its types and of crates below.
pub use Rattle.taxi_units.specs.declared.{event.Event.{Event}, receipt.Receipt.{Receipt}}
pub use Rattle.{drive_modes.specs.declared.charges.Mode.TheVariants.{Single}, meter_model.specs.Trip.{MeterTrip, Part}}
pub use Rattle.{totals_record.specs.declared.durable_state.Durable.{Durable}, meter_model.specs.declared.act.Act.{Act}}
pub use Rattle.meter_model.specs.{KeptTrip.{HoldFits, IsTripKept, with_parts}, TripParts.{Lasts, parts_by, parts_over}}
pub use Rattle.meter_model.specs.{Meter.{Meter}, Run.{opened, run}, Setting.{Setting}, Step.{step}}
