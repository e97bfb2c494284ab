use Rattle.{std.proofs.Common.{refl}, interval_clock.proofs.CalendarDays.{places-leap}}
use Rattle.interval_clock.proofs.CalendarDays.{IsDateOf-date_after, IsDateOf-first, IsDateOf-next_date, IsDateOf-only}
use Rattle.interval_clock.proofs.calendar_laws.the_calendar_goes_day_by_day.Goals as goal

pub returns-clause-first : goal.returns-clause-first
returns-clause-first c = (IsDateOf-first, refl)

pub returns-clause-next_date : goal.returns-clause-next_date
returns-clause-next_date c = IsDateOf-next_date

pub returns-clause-one_date : goal.returns-clause-one_date
returns-clause-one_date c = IsDateOf-only

pub returns-clause-date_after : goal.returns-clause-date_after
returns-clause-date_after c = IsDateOf-date_after

pub returns-clause-leap_years : goal.returns-clause-leap_years
returns-clause-leap_years c = places-leap
