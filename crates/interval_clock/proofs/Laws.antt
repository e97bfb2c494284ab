-- The lemmas that are the laws of the crate's public functions.
pub use Rattle.interval_clock.proofs.CalendarDays.{IsDateOf-date_after, IsDateOf-only}
pub use Rattle.interval_clock.proofs.DayNumbers.{is_date_of_number, one_day_number}
