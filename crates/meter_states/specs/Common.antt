-- Made by tools/make/imports: what several files of this crate bring in of its types and of crates below.
pub use Rattle.taxi_units.specs.Limits.{last_number, number_most, roaming_amid, roaming_between, roaming_most}
pub use Rattle.{taxi_units.specs.Money.{largest_amount}, drive_modes.specs.Fare.{added, saved, steps_above, steps_of}}
pub use Rattle.taxi_units.specs.{Time.{IsSecond, last_tick, longest_trip}, declared.event.{Key.{Key}, Why.{Why}}}
pub use Rattle.taxi_units.specs.declared.{event.Event.{Event, TheVariants.{Pulses, Tick}}, receipt.Display.{Display}}
pub use Rattle.taxi_units.specs.declared.event.Operating.{Operating, TheVariants.{ForHire, Hired, Off, Stopped}}
pub use Rattle.taxi_units.specs.declared.{event.Why.TheVariants.{NotNow}, receipt.Kind.TheVariants.{Aborted, Roam}}
pub use Rattle.drive_modes.specs.{Charge.{charge_of}, declared.charges.Weights.{Weights}}
pub use Rattle.drive_modes.specs.declared.{charges.Mode.{Mode}, meterage.{Meterage.{Meterage}, Rounding.{Rounding}}}
pub use Rattle.{totals_record.specs.{Ranges.{IsDurable, IsHeld}, States.{after_all}}, tariff_tree.specs.Tree.{Tree}}
pub use Rattle.totals_record.specs.declared.{durable_state.Durable.{Durable}, entry.Entry.{Entry}, trip.Trip.{Trip}}
pub use Rattle.{seal_record.specs.declared.seal.Seal.{Seal}, tariff_tree.specs.declared.context.Context.{Context}}
pub use Rattle.{tariff_check.specs.SoundTariff.{SoundTariff, supplement_numbered}, tariff_compile.specs.Near.{IsNear}}
pub use Rattle.{tariff_check.specs.declared.values.Supplement.{Supplement}, meter_model.specs.ClosedTrip.{trip_closed}}
pub use Rattle.tariff_compile.specs.Tables.{AreFit, IsInRangeFor, IsTablesOf, TableParts, rate_by, weights_in_force}
pub use Rattle.meter_model.specs.{Charge.{charge_at}, Supplements.{AreAllowed, amount_in, amounts_from, most_in, times}}
pub use Rattle.meter_model.specs.ClosedTrip.{closed, entry_of_trip, receipt_of, roaming_checked, roaming_entered}
pub use Rattle.meter_model.specs.{Display.{display_of, fare_shown, is_shown, shown}, Run.{run, whole_run}}
pub use Rattle.meter_model.specs.Interval.{context_of, context_on, counted_in, interval_begun, interval_counted}
pub use Rattle.meter_model.specs.{Interval.{ticks_so_far}, KeptTrip.{FitsSetting}, Trip.{with_extra, with_part}}
pub use Rattle.meter_model.specs.{Keys.{extra_added_to, key_pressed, latch_pressed}, Supply.{hold_taken}}
pub use Rattle.meter_model.specs.{Meter.{◌>>=◌, Meter, Outcome, quiet}, declared.core_trip.CoreTrip.{CoreTrip}}
pub use Rattle.meter_model.specs.Setting.{IsSealOf, Setting, local_at, modulus_of}
pub use Rattle.meter_model.specs.Step.{expired, expired_or_pressed, powered_step, step, step_in, ticked}
pub use Rattle.meter_model.specs.Trip.{InHired, MeterTrip, charges_of, core_trip_of, fare_by_fees, opening_of}
pub use Rattle.meter_model.specs.declared.act.Act.{Act, TheVariants.{Enter, Hold, Receipt, Refuse, Show}}
pub use Rattle.meter_states.specs.declared.cache.{Cache.{Cache}, CachedRate.{CachedRate}, CachedTime.{CachedTime}}
