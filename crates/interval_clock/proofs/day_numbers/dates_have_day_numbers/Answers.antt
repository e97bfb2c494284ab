use Rattle.interval_clock.proofs.{CalendarDays.{IsDateOf-only}, DayNumbers.{is_date_of_number, one_day_number}}
use Rattle.interval_clock.proofs.day_numbers.dates_have_day_numbers.Goals as goal

pub returns : goal.returns
returns c = record { there = is_date_of_number; one_day = one_day_number; one_date = IsDateOf-only }
