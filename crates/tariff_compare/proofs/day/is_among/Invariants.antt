use Rattle.std.{specs.List.{list_any}, proofs.Common.{◌==◌, ◌≡◌, drop}}
use Rattle.tariff_compare.proofs.day.is_among.Given as goal

abbrev pub invariant-loop-holiday : goal.invariant-loop-holiday
invariant-loop-holiday l = list_any (λ holiday. holiday == l.number) (drop l.holiday-index l.holidays)
    ≡ list_any (λ holiday. holiday == l.number) l.holidays
