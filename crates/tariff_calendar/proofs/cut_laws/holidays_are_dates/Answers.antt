use Rattle.tariff_calendar.proofs.Holidays.{days_are_dates, some_days}
use Rattle.tariff_calendar.proofs.cut_laws.holidays_are_dates.Goals as goal

pub returns : goal.returns
returns c = record { some = some_days; dates = days_are_dates }
