use Rattle.std.proofs.{Common.{◌∙◌, ◌≡◌, ◌≤◌, ap, map}, lemmas.List.Elements.{All-weaker}}
use Rattle.{tariff_tree.specs.Tree.{tree_of}, tariff_check.proofs.Laws.{sound_tariffs_have_sound_parts-parts}}
use Rattle.tariff_calendar.specs.{Common.{Distance, IsFromTo, cuts_of, greatest}, Lists.{lists_of, pulses_for}}
use Rattle.tariff_calendar.proofs.Lists.{AreOrdered-same, distances_fit}
use Rattle.tariff_calendar.proofs.cuts.Cuts.collect.Goals as goal

pub in_pulses-requires : goal.in_pulses-requires
in_pulses-requires c =
    let t = tree_of c.args.checked.now in
    let parts =
    sound_tariffs_have_sound_parts-parts t c.holidays-holidays.ensures.writable c.holidays-holidays.ensures.sound in
    let same : c.as_slice.result.now ≡ cuts_of Distance t.lines =
    c.as_slice.ensures.value ∙ c.in_ok-distances.ensures in
    rw same (All-weaker (IsFromTo 1 greatest) (λ n. n ≤ greatest) (λ n fits. fits.1) (cuts_of Distance t.lines)
    (distances_fit t parts))

pub holiday_days-requires : goal.holiday_days-requires
holiday_days-requires c =
    let t = tree_of c.args.checked.now in
    let parts =
    sound_tariffs_have_sound_parts-parts t c.holidays-holidays.ensures.writable c.holidays-holidays.ensures.sound in
    rw c.holidays-holidays.ensures.value parts.holidays

pub invariant_of-result : goal.invariant_of-result
invariant_of-result c =
    let t = tree_of c.args.checked.now in
    let parts =
    sound_tariffs_have_sound_parts-parts t c.holidays-holidays.ensures.writable c.holidays-holidays.ensures.sound in
    let distances : c.in_ok-in_pulses.field-0.items ≡ map (pulses_for c.args.k) (cuts_of Distance t.lines) =
    c.in_ok-in_pulses.ensures ∙ ap (map (pulses_for c.args.k)) (c.as_slice.ensures.value ∙ c.in_ok-distances.ensures) in
    let holidays : c.in_ok-holiday_days.field-0.items ≡ (lists_of t c.args.k).holidays =
    rw (← c.holidays-holidays.ensures.value) c.in_ok-holiday_days.ensures in
    AreOrdered-same t c.args.k _ _ _ _ _ parts c.in_ok-month_days.ensures c.in_ok-minutes.ensures distances
    c.in_ok-times.ensures holidays
