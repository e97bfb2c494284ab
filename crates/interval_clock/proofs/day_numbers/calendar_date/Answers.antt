use Rattle.std.proofs.Common.{◌≡◌, arith, of_z, rules, to_z, unsigned_abs, w8}
use Rattle.jiff.proofs.SpanFacts.{signed_arith}
use Rattle.interval_clock.proofs.Dates.{epoch_day_is_date, month_bound, pos-unsigned_abs, year_of_day}
use mir.Syntax.{w16}
use Rattle.interval_clock.proofs.day_numbers.calendar_date.Goals as goal

pub overflow_cast-result : goal.overflow_cast-result
overflow_cast-result c =
    let years = year_of_day c.args.day c.requires.0 c.requires.1 in
    search (rules, arith)

pub returns-clause-date : goal.returns-clause-date
returns-clause-date c =
    let d = c.args.day in
    let years = year_of_day d c.requires.0 c.requires.1 in
    let short = month_bound d in
    let month : unsigned_abs (to_z w8 (of_z w8 c.month.result)) ≡ d.month = omega (arith, signed_arith) in
    let date : unsigned_abs (to_z w8 (of_z w8 c.day.result)) ≡ d.day = omega (arith, signed_arith) in
    let year = pos-unsigned_abs (to_z w16 (of_z w16 c.year.result)) (omega (arith, signed_arith)) in
    rw (month, date)
    (epoch_day_is_date d (unsigned_abs (to_z w16 (of_z w16 c.year.result))) (omega (arith, signed_arith)))

pub returns-clause-year : goal.returns-clause-year
returns-clause-year c =
    let years = year_of_day c.args.day c.requires.0 c.requires.1 in
    let year = pos-unsigned_abs (to_z w16 (of_z w16 c.year.result)) (omega (arith, signed_arith)) in
    omega (arith, signed_arith)

pub returns-clause-month : goal.returns-clause-month
returns-clause-month c = omega (arith, signed_arith, c.args.day.month_in)

pub returns-clause-day : goal.returns-clause-day
returns-clause-day c = omega (arith, signed_arith, c.args.day.day_in, month_bound c.args.day)
