-- Made by tools/make/imports: what several files of this crate bring in of its types and of crates below.
pub use Rattle.taxi_units.specs.{Limits.{hirings_end, last_number}, declared.receipt.{Kind.{Kind}, Receipt.{Receipt}}}
pub use Rattle.taxi_units.specs.{Number.{decimal_read}, declared.event.{Event.{Event}, Why.{Why}}}
pub use Rattle.taxi_units.specs.{Time.{IsSecond, last_tick, longest_trip}, declared.receipt.Display.{Display}}
pub use Rattle.taxi_units.specs.declared.event.{Event.TheVariants.{Down, Pulses, Tick, Up}, Why.TheVariants.{TooFast}}
pub use Rattle.taxi_units.specs.declared.event.Key.{Key, TheVariants.{Clear, Extra, Hire, Position, Stop, Zone}}
pub use Rattle.taxi_units.specs.declared.event.Operating.{Operating, TheVariants.{ForHire, Hired, Off, Stopped}}
pub use Rattle.drive_modes.specs.{Fare.{shown_fare}, declared.charges.Mode.{Mode, TheVariants.{Double, Single}}}
pub use Rattle.drive_text.specs.{Drive.{bad_at_end, runs_in}, declared.run.Run.{Run, TheVariants.{Many, One}}}
pub use Rattle.drive_text.specs.{Ranges.{IsInRange, IsRunInRange}, Runs.{interval_events, intervals_events, run_events}}
pub use Rattle.{drive_text.specs.Written.{event_text}, totals_record.specs.declared.trip.Trip.{Trip}}
pub use Rattle.{totals_record.specs.States.{first_state}, seal_record.specs.declared.params.Params.{Params}}
pub use Rattle.{tariff_tree.specs.Meaning.{at_hiring}, tariff_check.specs.SoundTariff.{supplement_numbered, values_of}}
pub use Rattle.tariff_tree.specs.{Tree.{Tree, tree_of}, Writable.{IsWritable}, declared.context.Context.{Context}}
pub use Rattle.tariff_check.specs.{Amounts.{IsFitInitial, fees_in_force}, SoundLookups.{place_in_force, rate_in_force}}
pub use Rattle.tariff_check.specs.{Faults.{IsSound}, Sound.{IsSoundRate}}
pub use Rattle.tariff_check.specs.{Parts.{RateNumbers, supplement_of}, declared.values.Supplement.{Supplement}}
pub use Rattle.tariff_check.specs.SoundTariff.{Choice, SoundTariff, lines_of, own_lines, own_values, sound_of}
pub use Rattle.meter_model.specs.{Charge.{charge_at, charge_by}, Keys.{extra_added, hired, is_among, key_in, latched}}
pub use Rattle.meter_model.specs.ClosedTrip.{closed, receipt_of, roaming_checked, roaming_entered}
pub use Rattle.meter_model.specs.{Display.{display_of, is_shown, shown}, Run.{actions_of, ended, ended_in, opened, run}}
pub use Rattle.meter_model.specs.Interval.{context_now, context_of, context_on, counted_in, interval_begun}
pub use Rattle.meter_model.specs.Interval.{interval_counted, interval_left, left_in, pulses_so_far, pulses_taken}
pub use Rattle.meter_model.specs.{Interval.{room_of, ticks_so_far, with_interval}, Trip.{with_part}}
pub use Rattle.meter_model.specs.{KeptTrip.{IsSupplementNumber, IsTripKept}, Supplements.{amount_in, amounts_of, times}}
pub use Rattle.meter_model.specs.{Meter.{◌>>=◌, Meter, Outcome, quiet}, Setting.{Setting, local_at, stamp_at, unit_of}}
pub use Rattle.meter_model.specs.Step.{clock_read, expired, expired_or_pressed, latch_refused, powered_step, step}
pub use Rattle.meter_model.specs.{Step.{step_in, ticked}, Supply.{supply_came, supply_dropped, turned_off}}
pub use Rattle.meter_model.specs.Supply.{aborted, held_or_closed, hold_taken, is_within_hold, powered, resumed}
pub use Rattle.meter_model.specs.Trip.{InHired, InStopped, MeterTrip, Part, Rest, charge_in, pulses_in, ticks_in}
pub use Rattle.meter_model.specs.declared.act.Act.{Act, TheVariants.{Refuse, Show}}
pub use Rattle.verify_bench.specs.declared.{bench_meter.BenchMeter.{BenchMeter}, reading.ReadingsFault.{ReadingsFault}}
pub use Rattle.verify_bench.specs.declared.{bench_meter.SavedState.{SavedState}, expected.Expected.{Expected}}
pub use Rattle.verify_bench.specs.declared.explained.{Explained.{Explained}, Way.TheVariants.{Both, Distance, Time}}
pub use Rattle.verify_bench.specs.declared.{explained.{Group.{Group}, Taken.{Taken}, Way.{Way}}, moment.Moment.{Moment}}
pub use Rattle.verify_bench.specs.declared.{explained.Sums.{Sums}, judging.Verdict.{Verdict}, reading.Reading.{Reading}}
pub use Rattle.verify_bench.specs.declared.{fees.HiringFees.{HiringFees}, moment.{Happening.{Happening}, Story.{Story}}}
pub use Rattle.verify_bench.specs.declared.{hiring.Hiring.{Hiring}, stories.Stories.{Stories}, sums.RateSums.{RateSums}}
pub use Rattle.verify_bench.specs.declared.reading.ReadingsFault.TheVariants.{BadRow, NoMemory, TooLong}
pub use Rattle.verify_bench.specs.declared.teller.Teller.{Teller}
