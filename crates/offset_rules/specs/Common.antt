-- Made by tools/make/imports: what several files of this crate bring in of its types and of crates below.
pub use Rattle.taxi_units.specs.{Digits.{IsFigure}, Reading.{◌>>=◌, Gives}, Time.{first_second}, Weekdays.{day_names}}
pub use Rattle.interval_clock.specs.Calendar.{IsDate, day_number_of, days_of_month}
pub use Rattle.interval_clock.specs.Offsets.{IsOffset, IsOffsetList, offset_at}
pub use Rattle.interval_clock.specs.declared.day_numbers.CalendarDate.{CalendarDate}
pub use Rattle.offset_rules.specs.declared.fault.RuleFault.{RuleFault, TheVariants.{BadLine, SameMonth, TooLong}}
