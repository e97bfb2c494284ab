-- Made by tools/make/imports: what several files of this crate bring in of its types and of crates below.
pub use Rattle.taxi_units.specs.{Time.{IsSecond, last_tick}, declared.event.Event.TheVariants.{Down, Pulses, Tick, Up}}
pub use Rattle.taxi_units.specs.declared.event.{Event.{Event}, Operating.{Operating, TheVariants.{ForHire, Hired, Off}}}
pub use Rattle.taxi_units.specs.declared.event.Key.{Key, TheVariants.{Hire, Position, Zone}}
pub use Rattle.{drive_modes.specs.Fare.{Opening, steps_above}, drive_text.specs.Ending.{events_of}}
pub use Rattle.drive_modes.specs.declared.{charges.Mode.{Mode}, meterage.{Meterage.{Meterage}, Rounding.{Rounding}}}
pub use Rattle.interval_clock.specs.{LocalTime.{day_of, local_second, minute_of_day}, Offsets.{IsOffsetList}}
pub use Rattle.{drive_text.specs.Written.{drive_of}, totals_record.specs.declared.durable_state.Durable.{Durable}}
pub use Rattle.{totals_record.specs.declared.trip.Trip.{Trip}, tariff_tree.specs.declared.context.Context.{Context}}
pub use Rattle.tariff_tree.specs.{Meaning.{rate_place}, Tree.{Tree}, Writable.{IsFromTo, IsWritable}}
pub use Rattle.tariff_check.specs.{Amounts.{fees_in_force, initial_by}, SoundTariff.{sound_of, supplement_numbered}}
pub use Rattle.{tariff_check.specs.Faults.{IsSound}, meter_model.specs.Interval.{context_now, context_of, ticks_so_far}}
pub use Rattle.tariff_compare.specs.Contexts.{IsMeterContext, context_at, most_pulses}
pub use Rattle.tariff_compare.specs.declared.meter_context.MeterContext.{MeterContext}
pub use Rattle.meter_model.specs.{Charge.{charge_at}, Display.{display_of}, Run.{opened, run, whole_run}, Step.{step}}
pub use Rattle.meter_model.specs.{Meter.{Meter, Outcome, quiet, refused}, Setting.{Setting, local_at, unit_of}}
pub use Rattle.meter_model.specs.Trip.{MeterTrip, Part, begun, held_trip, pulses_in, pulses_of, ticks_in, with_part}
pub use Rattle.meter_states.specs.Lawful.{IsTimely}
