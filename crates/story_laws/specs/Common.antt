-- Made by tools/make/imports: what several files of this crate bring in of its types and of crates below.
pub use Rattle.{taxi_units.specs.declared.event.{Event.{Event}, Key.{Key}, Why.{Why}}, meter_model.specs.Keys.{hired}}
pub use Rattle.taxi_units.specs.declared.event.Operating.{Operating, TheVariants.{ForHire, Hired, Off, Stopped}}
pub use Rattle.taxi_units.specs.declared.receipt.{Display.{Display}, Kind.{Kind}, Receipt.{Receipt}, Stamp.{Stamp}}
pub use Rattle.totals_record.specs.{States.{first_state}, declared.trip.Trip.{Trip}}
pub use Rattle.{tariff_check.specs.Amounts.{fees_in_force}, meter_model.specs.Trip.{MeterTrip, Part, begun, ticks_in}}
pub use Rattle.meter_model.specs.{Interval.{context_now, counted_in, ticks_so_far}, Meter.{Meter, Outcome, quiet}}
pub use Rattle.meter_model.specs.{KeptTrip.{IsTripKept, IsTripKeptIn, with_parts}, Run.{actions_of, ended, opened, run}}
pub use Rattle.meter_model.specs.{Setting.{Setting, stamp_at}, Step.{step, step_in}, declared.act.Act.{Act}}
pub use Rattle.{meter_model.specs.TripParts.{parts_by}, verify_bench.specs.declared.moment.Happening.{Happening}}
pub use Rattle.verify_bench.specs.{Fees.{fees_of_hiring}, TripExplanations.{trip_at}}
pub use Rattle.verify_bench.specs.{Receipts.{receipt_in, receipts_in}, declared.moment.Moment.{Moment}}
pub use Rattle.verify_bench.specs.Story.{HiringStory, Telling, display_in, display_told, displays_in, end_of}
pub use Rattle.verify_bench.specs.Story.{happenings_of, is_empty, is_in_trip, is_line, key_told, kind_in, latch_told}
pub use Rattle.verify_bench.specs.Story.{line_by, moment_of, moments_at, moments_in, moments_of, rate_in, rate_line}
pub use Rattle.verify_bench.specs.Story.{rate_told, refusals_told, stories_of, told_behind, whys_in}
