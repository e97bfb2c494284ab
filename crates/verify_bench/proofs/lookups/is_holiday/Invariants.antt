use Rattle.std.{specs.List.{list_any}, proofs.Common.{◌&&◌, ◌==◌, ◌≡◌, drop}}
use Rattle.{tariff_check.specs.Parts.{DateNumbers}, tariff_calendar.specs.Lists.{is_holiday}}
use Rattle.verify_bench.specs.Common.{tree_of}
use Rattle.verify_bench.proofs.lookups.is_holiday.Given as goal

abbrev pub invariant-loop-holiday : goal.invariant-loop-holiday
invariant-loop-holiday l =
    list_any (λ (d : DateNumbers). (d.year == l.day.0) && ((d.month == l.day.1) && (d.date == l.day.2)))
    (drop l.holiday-index l.holidays) ≡ is_holiday (tree_of l.checked).lines l.day.0 l.day.1 l.day.2
