use Rattle.std.proofs.Common.{◌∙◌, List, ap, sym}
use Rattle.tariff_compare.{specs.{Common.{Day}, Grids.{day_in, days_until, with_day}}, proofs.Days.{days_more}}
use Rattle.tariff_compare.proofs.day.different_days.Goals as goal

pub loop-place-preserved : goal.loop-place-preserved
loop-place-preserved c =
    let one = c.args.one.now in
    let other = c.args.other.now in
    c.in_ok-put_day.ensures
    ∙ (ap (λ (ds : List Day). with_day ds c.day_in.result) c.loop-place.invariant
    ∙ (ap (with_day (days_until one other c.loop-place.place))
    (c.day_in.ensures ∙ ap (day_in one other) c.day_at.ensures.value)
    ∙ sym (days_more one other c.loop-place.place)))
