use Rattle.std.proofs.{Common.{◌+◌, ◌∙◌, ◌≡◌, ◌≤◌, ap, arith, length, min, subst, sym}, lemmas.Int.{ints}}
use Rattle.tariff_calendar.{specs.Lists.{CutLists}, proofs.{Found.{at_least}, Holidays.{has_day-before}}}
use Rattle.tariff_calendar.proofs.cuts.Cuts.holiday.Goals as goal

pub returns-then-day-lt0-clause-value : goal.returns-then-day-lt0-clause-value
returns-then-day-lt0-clause-value g c = sym (has_day-before c.args.self.now.holidays c.args.day (omega (arith, ints)))

pub returns-clause-most : goal.returns-clause-most
returns-clause-most g c = c.has.ensures.steps.most 8
    (omega (arith, c.self.invariant.holidays.few, c.as_slice.ensures.len, ap length c.as_slice.ensures.value))

pub returns-clause-least : goal.returns-clause-least
returns-clause-least g c = λ from.
    let same : length c.as_slice.result.now ≡ length c.args.self.now.holidays =
    ap length c.as_slice.ensures.value ∙ ap (λ (lists : CutLists). length lists.holidays) c.self.view_is in
    subst (λ n. c.args.steps.now + min 1 n ≤ c.has.new.steps) same (at_least (length c.as_slice.result.now)
    c.args.steps.now c.has.new.steps c.has.ensures.steps.kept c.has.ensures.steps.least)
