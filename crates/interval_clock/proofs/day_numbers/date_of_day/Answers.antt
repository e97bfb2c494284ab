use Rattle.std.proofs.{Common.{◌∙◌, ◌≡◌, arith, pos, w32}, lemmas.Int.{to_z_pos}}
use Rattle.{jiff.specs.Words.{epoch_day}, interval_clock.proofs.CalendarDays.{IsDateOf-date_after, IsDateOf-only}}
use Rattle.interval_clock.specs.Calendar.{date_after}
use Rattle.interval_clock.proofs.day_numbers.date_of_day.Goals as goal

pub returns-clause-value : goal.returns-clause-value
returns-clause-value c =
    let day : epoch_day c.date_of.result ≡ pos c.args.day = c.date_of.ensures ∙ to_z_pos w32 c.args.day (omega arith) in
    IsDateOf-only (pos c.args.day) c.calendar_date.result (date_after c.args.day)
    (rw day at c.calendar_date.ensures.date) (IsDateOf-date_after c.args.day)

pub returns-clause-date : goal.returns-clause-date
returns-clause-date c =
    let day : epoch_day c.date_of.result ≡ pos c.args.day = c.date_of.ensures ∙ to_z_pos w32 c.args.day (omega arith) in
    rw day at c.calendar_date.ensures.date
