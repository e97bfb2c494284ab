-- Made by tools/make/imports: what several files of this crate bring in of its types and of crates below.
pub use Rattle.{taxi_units.specs.Limits.{hirings_end}, drive_modes.specs.Fare.{saved}}
pub use Rattle.taxi_units.specs.declared.{event.{Event.{Event}, Key.{Key}}, receipt.Display.{Display}}
pub use Rattle.taxi_units.specs.declared.event.Operating.{Operating, TheVariants.{ForHire, Hired, Off, Stopped}}
pub use Rattle.taxi_units.specs.declared.{event.Why.TheVariants.{NotNow}, receipt.Kind.TheVariants.{Closed}}
pub use Rattle.totals_record.specs.declared.{durable_state.Durable.{Durable}, trip.Trip.{Trip}}
pub use Rattle.tariff_tree.specs.declared.context.Context.{Context}
pub use Rattle.tariff_check.specs.{Amounts.{fees_in_force}, SoundTariff.{SoundTariff, supplement_numbered}}
pub use Rattle.{tariff_check.specs.declared.values.Supplement.{Supplement}, meter_model.specs.declared.act.Act.{Act}}
pub use Rattle.meter_model.specs.declared.act.Act.TheVariants.{Refuse}
