use Rattle.std.proofs.{Common.{◌∙◌, ◌≡◌, arith, pos, refl, w8}, lemmas.Int.{to_z_pos}}
use Rattle.jiff.proofs.SpanFacts.{signed_arith}
use Rattle.interval_clock.{specs.Calendar.{day_number_of}, proofs.DayNumbers.{date_there, is_date_there, number_there}}
use mir.Syntax.{w16}
use Rattle.interval_clock.proofs.day_numbers.day_number.Goals as goal

pub days_since_1970-requires : goal.days_since_1970-requires
days_since_1970-requires c =
    let h = c.in-Ok.ensures.value in
    let d = c.in-Ok.day in
    let year = h.0 ∙ to_z_pos w16 c.args.year (omega arith) in
    let number = number_there d c.args.year d.month d.day c.requires.from year refl refl in
    omega (arith, signed_arith)

pub returns-in-Ok : goal.returns-in-Ok
returns-in-Ok c =
    let h = c.in-Ok.ensures.value in
    let d = c.in-Ok.day in
    let year = h.0 ∙ to_z_pos w16 c.args.year (omega arith) in
    let month_is = h.1 ∙ to_z_pos w8 c.args.month (omega arith) in
    let date_is = h.2 ∙ to_z_pos w8 c.args.date (omega arith) in
    let month : d.month ≡ c.args.month = cc in
    let date : d.day ≡ c.args.date = cc in
    let number = number_there d c.args.year c.args.month c.args.date c.requires.from year month date in
    let there = is_date_there d c.args.year c.args.month c.args.date year month date in
    let value : c.days_since_1970.result ≡ day_number_of c.args.year c.args.month c.args.date = cc in
    record {
      value = rw (there, value) refl;
      date = date_there d (pos c.days_since_1970.result) c.args.year c.args.month c.args.date c.days_since_1970.ensures
          year month date;
    }
