use Rattle.{std.proofs.Common.{arith, sym}, offset_rules.proofs.Named.{early_date, found, last_date}}
use Rattle.offset_rules.proofs.changes.date_of_change.Goals as goal

pub returns-then-change-lt5 : goal.returns-then-change-lt5
returns-then-change-lt5 c =
    let date = early_date c.args.year c.args.change c.requires.from c.requires.change (omega arith) in
    let begins = rw c.number_of_date.ensures.value at c.weekday-begins.ensures.value in
    let is = rw (← begins) at date in
    record { value = sym (found c.args.year c.args.change _ is); date = is }

pub returns-else-change-lt5 : goal.returns-else-change-lt5
returns-else-change-lt5 c =
    let date =
    last_date c.args.year c.args.change c.requires.from c.requires.change (omega (arith, c.requires.change.number)) in
    let begins = rw c.number_of_date.ensures.value at c.weekday-begins.ensures.value in
    let is = rw (← begins, ← c.days_of_month-days.ensures) at date in
    record { value = sym (found c.args.year c.args.change _ is); date = is }
