use Rattle.std.proofs.Common.{◌≡◌, arith}
use Rattle.jiff.{specs.Words.{epoch_day}, proofs.SpanFacts.{signed_arith}}
use Rattle.interval_clock.proofs.{CalendarDays.{date_place-most}, Dates.{weekday_number-weekday_of}}
use Rattle.interval_clock.proofs.local_time.on_day.Goals as goal

pub returns-clause-weekday : goal.returns-clause-weekday
returns-clause-weekday c =
    let day : epoch_day c.date_of-there.result ≡ c.args.day = omega (arith, signed_arith) in
    let weekday = weekday_number-weekday_of (epoch_day c.date_of-there.result) in
    rw (← day) (omega (arith, signed_arith))

pub returns-clause-month_day : goal.returns-clause-month_day
returns-clause-month_day c = c.date_place.ensures

pub returns-clause-ranges : goal.returns-clause-ranges
returns-clause-ranges c =
    record {
      year = c.calendar_date-date.ensures.year;
      month = c.calendar_date-date.ensures.month;
      date = c.calendar_date-date.ensures.day;
      weekday = omega (arith, signed_arith);
      month_day = omega (arith, c.date_place.ensures, date_place-most _ _ _ _ c.calendar_date-date.ensures.date);
      minute = omega arith;
      second = omega arith;
    }
