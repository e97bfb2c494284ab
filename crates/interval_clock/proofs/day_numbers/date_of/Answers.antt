use Rattle.std.proofs.{Common.{◌∙◌, ◌≡◌, FitsSigned, arith, pos, w32, w64}, lemmas.Int.{to_z-of_z}}
use Rattle.jiff.{specs.Words.{epoch_day}, proofs.SpanFacts.{can_add-days, date_add-days, signed_arith}}
use Rattle.interval_clock.proofs.Dates.{epoch_day-start}
use Rattle.interval_clock.proofs.day_numbers.date_of.Goals as goal

pub add-requires : goal.add-requires
add-requires c =
    let day : FitsSigned w32 c.args.day = c.ranges.day in
    let long : FitsSigned w64 c.args.day = omega (arith, signed_arith) in
    let only = simp to_z-of_z at c.days.ensures in
    let start : epoch_day c.date.result ≡ pos 0 = epoch_day-start c.date.result c.date.ensures in
    (can_add-days c.date.result c.args.day c.days.result only).1 (omega (arith, signed_arith))

pub returns : goal.returns
returns c =
    let day : FitsSigned w32 c.args.day = c.ranges.day in
    let long : FitsSigned w64 c.args.day = omega (arith, signed_arith) in
    let only = simp to_z-of_z at c.days.ensures in
    let start : epoch_day c.date.result ≡ pos 0 = epoch_day-start c.date.result c.date.ensures in
    let moved = c.add.ensures ∙ date_add-days c.date.result c.args.day c.days.result only in
    omega (arith, signed_arith)
