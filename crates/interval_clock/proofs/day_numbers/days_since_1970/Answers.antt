use Rattle.std.proofs.Common.{◌≡◌, arith, pos, sym, unsigned_abs}
use Rattle.{jiff.specs.Words.{epoch_day}, jiff_core.proofs.{DateLemmas.{epoch_day_range}, SignedLemmas.{signed_arith}}}
use Rattle.interval_clock.proofs.{Dates.{epoch_day-start, pos-unsigned_abs}, DayNumbers.{days_of_hours, whole_hours}}
use Rattle.interval_clock.proofs.day_numbers.days_since_1970.Goals as goal

pub overflow_cast-result : goal.overflow_cast-result
overflow_cast-result c =
    let start = epoch_day-start c.date.result c.date.ensures in
    let range = epoch_day_range c.args.day in
    let n = unsigned_abs (epoch_day c.args.day) in
    let day : epoch_day c.args.day ≡ pos n = sym (pos-unsigned_abs (epoch_day c.args.day) c.requires) in
    let hours = whole_hours n (epoch_day c.args.day)
    (epoch_day c.date.result) _ c.as_hours.result day start c.duration_since.ensures c.as_hours.ensures in
    let days = days_of_hours n in
    rw hours (omega (arith, signed_arith))

pub returns : goal.returns
returns c =
    let start = epoch_day-start c.date.result c.date.ensures in
    let range = epoch_day_range c.args.day in
    let n = unsigned_abs (epoch_day c.args.day) in
    let day : epoch_day c.args.day ≡ pos n = sym (pos-unsigned_abs (epoch_day c.args.day) c.requires) in
    let hours = whole_hours n (epoch_day c.args.day)
    (epoch_day c.date.result) _ c.as_hours.result day start c.duration_since.ensures c.as_hours.ensures in
    let days = days_of_hours n in
    rw hours (omega (arith, signed_arith))
