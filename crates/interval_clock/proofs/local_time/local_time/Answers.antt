use Rattle.std.proofs.{Common.{◌%◌, ◌/◌, ◌∙◌, ◌≡◌, arith, pos, w32}, lemmas.Int.{to_z_pos}}
use Rattle.interval_clock.proofs.LocalTimes.{is_local_time_of}
use Rattle.interval_clock.proofs.local_time.local_time.Goals as goal

pub returns-clause-value : goal.returns-clause-value
returns-clause-value c =
    let time = c.on_day.result in
    let parts = c.on_day.ensures in
    let day : time.day ≡ pos (c.args.local / 86400) = parts.day ∙ to_z_pos w32 (c.args.local / 86400) (omega arith) in
    let second : time.second ≡ c.args.local % 86400 = omega arith in
    let minute : time.minute ≡ c.args.local % 86400 / 60 = omega arith in
    is_local_time_of time (pos c.args.local) parts.from day parts.date parts.weekday parts.month_day minute second
