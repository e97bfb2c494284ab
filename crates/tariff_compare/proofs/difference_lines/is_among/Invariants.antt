use Rattle.std.{specs.List.{list_any}, proofs.Common.{◌&&◌, ◌==◌, ◌≡◌, drop}}
use Rattle.tariff_check.specs.Parts.{DateNumbers}
use Rattle.tariff_compare.proofs.difference_lines.is_among.Given as goal

abbrev pub invariant-loop-holiday : goal.invariant-loop-holiday
invariant-loop-holiday l =
    list_any (λ (d : DateNumbers). (d.year == l.day.year) && ((d.month == l.day.month) && (d.date == l.day.date)))
    (drop l.holiday-index l.holidays)
    ≡ list_any (λ (d : DateNumbers). (d.year == l.day.year) && ((d.month == l.day.month) && (d.date == l.day.date)))
    l.holidays
