use Rattle.std.proofs.Common.{[], ◌≡◌, drop, map}
use Rattle.tariff_calendar.specs.{Common.{with_each}, Lists.{day_of}}
use Rattle.tariff_calendar.proofs.collecting.different_days.Given as goal

-- the days of the holidays so far, with those that are left
abbrev pub invariant-loop-holiday : goal.invariant-loop-holiday
invariant-loop-holiday l =
    with_each l.days.keys (map day_of (drop l.holiday-index l.holidays)) ≡ with_each [] (map day_of l.holidays)
